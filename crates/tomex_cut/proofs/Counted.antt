-- The symbols of a file that count: where their names are, and their numbers.
use Rattle.std.proofs.Common.{◌≡◌, ℕ, zero, suc, ◌+◌, ◌*◌, ◌/◌, ◌^◌, ◌<◌, ◌≤◌, List, [], length}
use Rattle.std.proofs.Common.{Bool, true, false, not, nat_eq, nat_lt, All, Option, Some, None, refl, subst, arith}
use Rattle.std.proofs.Common.{length-append}
use Rattle.std.specs.Prelude.{if◌then◌else◌, slice_index, ◌&&◌}
use Rattle.std.proofs.lemmas.Bool.{leb-true, ltb-true}
use Rattle.tomex_cut.proofs.Rooms.{both}
use Rattle.std.proofs.lemmas.List.Elements.{All-append, All-cons, All-weaker}
use Rattle.tomex_image.specs.FileHeader.{half_at, word_at}
use Rattle.tomex_symbols.specs.declared.sections.Section.{Section}
use Rattle.tomex_symbols.specs.declared.sections.Tables.{Tables}
use Rattle.tomex_symbols.specs.declared.symbol.Kind.{Kind}
use Rattle.tomex_symbols.specs.declared.symbol.Kind.TheVariants.{Function, Label}
use Rattle.tomex_symbols.specs.declared.symbol.Symbol.{Symbol}
use Rattle.tomex_symbols.specs.Sections.{can_be_read, first_symbol_table, has_sections, is_string_table, lies_in_file}
use Rattle.tomex_symbols.specs.Sections.{section, section_count, sections_from, tables_of, with_names}
use Rattle.tomex_symbols.specs.Symbols.{counted_at, is_function, is_in_code, is_internal, is_named, kind_at, kind_of}
use Rattle.tomex_symbols.specs.Symbols.{name_place, symbol_of_kind, symbols_from, symbols_in, symbols_of}
use Rattle.tomex_cut.specs.SymbolFile.{start_in}
use Rattle.tomex_cut.specs.Writing.{IsNamedFrom}

-- what the fields of an entry that counts say
pub record Counts (bytes : List ℕ) (names : Section) (name : ℕ) (kind : Kind) : Type 0 where
  pub named : is_named bytes names name ≡ true
  pub label : kind ≡ Label → is_internal bytes names name ≡ false

-- over tests, for cases: named, a function, in code, internal
counts_by : (n f c i : Bool) (kind : Kind)
    → (if not n then None else if f then Some Function else if c && not i then Some Label else None) ≡ Some kind
    → (n ≡ true) × (kind ≡ Label → i ≡ false)
counts_by true true c i kind e = (refl, λ l. absurd (cc))
counts_by true false true false kind e = (refl, λ l. refl)
counts_by true false true true kind e = absurd (cc)
counts_by true false false i kind e = absurd (cc)
counts_by false f c i kind e = absurd (cc)

pub counts : (bytes : List ℕ) (names : Section) (name info shndx : ℕ) (kind : Kind)
    → kind_of bytes names name info shndx ≡ Some kind → Counts bytes names name kind
counts bytes names name info shndx kind e =
    let p = counts_by (is_named bytes names name) (is_function info shndx) (is_in_code bytes info shndx)
    (is_internal bytes names name) kind e in
    record { named = p.0; label = p.1 }

-- a symbol that counts, of the entry at an offset of the file
pub record IsCounted (bytes : List ℕ) (names : Section) (s : Symbol) : Type 0 where
  pub at : ℕ
  pub name : s.name ≡ names.offset + word_at bytes at
  pub end : s.names_end ≡ names.offset + names.size
  pub address : s.address ≡ word_at bytes (at + 4)
  pub size : s.size ≡ word_at bytes (at + 8)
  pub counts : Counts bytes names (word_at bytes at) s.kind

nothing_counted : (bytes : List ℕ) (names : Section) → All (IsCounted bytes names) []
nothing_counted bytes names = λ k d l. absurd (omega arith)

one_counted : (bytes : List ℕ) (names : Section) (number i : ℕ) (o : Option Kind) → kind_at bytes names i ≡ o
    → All (IsCounted bytes names) (symbol_of_kind bytes names number i o)
one_counted bytes names number i None e = nothing_counted bytes names
one_counted bytes names number i (Some kind) e =
    All-cons (IsCounted bytes names) _ [] (record {
      at = i;
      name = refl;
      end = refl;
      address = refl;
      size = refl;
      counts = counts bytes names (word_at bytes i) (slice_index bytes (i + 12)) (half_at bytes (i + 14)) kind e;
    }) (nothing_counted bytes names)

pub counted_from : (bytes : List ℕ) (t : Tables) (k n : ℕ) → All (IsCounted bytes t.names) (symbols_from bytes t k n)
counted_from bytes t k zero = nothing_counted bytes t.names
counted_from bytes t k (suc n) =
    All-append (IsCounted bytes t.names) (counted_at bytes t.names k (t.symbols.offset + 16 * k))
    (symbols_from bytes t (k + 1) n)
    (one_counted bytes t.names k (t.symbols.offset + 16 * k) _ refl) (counted_from bytes t (k + 1) n)

-- the tables lie in the file
pub record AreTables (bytes : List ℕ) (t : Tables) : Type 0 where
  pub symbols : t.symbols.offset + t.symbols.size ≤ length bytes
  pub names : t.names.offset + t.names.size ≤ length bytes

some_if : (test : Bool) (x t : Tables) → (if test then Some x else None) ≡ Some t → (test ≡ true) × (x ≡ t)
some_if true x t e = (refl, cc)
some_if false x t e = absurd (cc)

names_tables : (bytes : List ℕ) (o : Option Section) (t : Tables) → with_names bytes o ≡ Some t → AreTables bytes t
names_tables bytes None t e = absurd (cc)
names_tables bytes (Some s) t e =
    let names = section bytes s.link in
    let p = some_if (can_be_read bytes s) (record { symbols = s; names = names }) t e in
    let entries = nat_eq s.entry_size 16 in
    let there = nat_lt s.link (section_count bytes) in
    let q = both (entries && lies_in_file bytes s && there && is_string_table names) (lies_in_file bytes names) p.0 in
    let r = both (entries && lies_in_file bytes s && there) (is_string_table names) q.0 in
    let v = both (entries && lies_in_file bytes s) there r.0 in
    let w = both entries (lies_in_file bytes s) v.0 in
    subst (AreTables bytes) p.1 (record {
      symbols = leb-true (s.offset + s.size) (length bytes) w.1;
      names = leb-true (names.offset + names.size) (length bytes) q.1;
    })

tables_by : (bytes : List ℕ) (b : Bool) (t : Tables)
    → (if b then with_names bytes (first_symbol_table (sections_from bytes 0 (section_count bytes))) else None) ≡ Some t
    → AreTables bytes t
tables_by bytes true t e = names_tables bytes (first_symbol_table (sections_from bytes 0 (section_count bytes))) t e
tables_by bytes false t e = absurd (cc)

pub are_tables : (bytes : List ℕ) (t : Tables) → tables_of bytes ≡ Some t → AreTables bytes t
are_tables bytes t e = tables_by bytes (has_sections bytes) t e

at_most_one : (bytes : List ℕ) (names : Section) (number i : ℕ) (o : Option Kind)
    → length (symbol_of_kind bytes names number i o) ≤ 1
at_most_one bytes names number i None = omega arith
at_most_one bytes names number i (Some kind) = omega arith

at_most : (bytes : List ℕ) (t : Tables) (k n : ℕ) → length (symbols_from bytes t k n) ≤ n
at_most bytes t k zero = omega arith
at_most bytes t k (suc n) =
    let i = t.symbols.offset + 16 * k in
    let one = at_most_one bytes t.names k i (kind_at bytes t.names i) in
    omega (
      arith,
      length-append (counted_at bytes t.names k i) (symbols_from bytes t (k + 1) n),
      one,
      at_most bytes t (k + 1) n,
    )

-- what a file's symbols are, by its tables
few_in : (bytes : List ℕ) (o : Option Tables) → tables_of bytes ≡ o → 16 * length (symbols_in bytes o) ≤ length bytes
few_in bytes None e = omega arith
few_in bytes (Some t) e =
    let a = are_tables bytes t e in
    omega (arith, at_most bytes t 0 (t.symbols.size / 16), a.symbols)

pub few_symbols : (bytes : List ℕ) → 16 * length (symbols_of bytes) ≤ length bytes
few_symbols bytes = few_in bytes (tables_of bytes) refl

pub name_inside : (bytes : List ℕ) (names : Section) (s : Symbol) (c : IsCounted bytes names s)
    → word_at bytes c.at < names.size
name_inside bytes names s c =
    let n = word_at bytes c.at in
    ltb-true n names.size
    (both (nat_lt n names.size) (not (nat_eq (slice_index bytes (name_place names n)) 0)) c.counts.named).0

near_in : (bytes : List ℕ) (o : Option Tables) → tables_of bytes ≡ o → length bytes ≤ 2 ^ 28
    → All (IsNamedFrom (start_in o)) (symbols_in bytes o)
near_in bytes None e few = λ k d l. absurd (omega arith)
near_in bytes (Some t) e few =
    let a = are_tables bytes t e in
    All-weaker (IsCounted bytes t.names) (IsNamedFrom t.names.offset) (λ s c.
    let inside = name_inside bytes t.names s c in
    record { above = omega (arith, c.name); near = omega (arith, c.name, inside, a.names) }) _
    (counted_from bytes t 0 (t.symbols.size / 16))

pub are_near : (bytes : List ℕ) → length bytes ≤ 2 ^ 28
    → All (IsNamedFrom (start_in (tables_of bytes))) (symbols_of bytes)
are_near bytes few = near_in bytes (tables_of bytes) refl few
