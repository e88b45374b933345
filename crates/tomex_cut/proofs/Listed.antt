-- The symbols of a cut's file with symbols are those of the image's own file.
use Rattle.std.proofs.Common.{◌≡◌, ℕ, zero, suc, ◌+◌, ◌*◌, ◌/◌, ◌^◌, ◌<◌, ◌≤◌, List, [], ◌∷◌, ◌++◌, length, take, drop}
use Rattle.std.proofs.Common.{All, Option, Some, None, refl, sym, ◌∙◌, ap, subst, arith, append_assoc, length-append}
use Rattle.std.proofs.Common.{replicate}
use Rattle.std.specs.Prelude.{nat_lt, slice_index}
use Rattle.std.specs.List.{flat_map, take_while}
use Rattle.std.proofs.lemmas.List.{length-drop, length-take}
use Rattle.std.proofs.lemmas.List.Elements.{All-head, All-tail, All-weaker}
use Rattle.tomex_image.specs.Image.{IsLoaded, Loaded}
use Rattle.tomex_image.specs.Window.{IsWindow, Span}
use Rattle.tomex_symbols.specs.declared.sections.Section.{Section}
use Rattle.tomex_symbols.specs.declared.sections.Tables.{Tables}
use Rattle.tomex_symbols.specs.declared.symbol.Kind.{Kind}
use Rattle.tomex_symbols.specs.declared.symbol.Symbol.{Symbol}
use Rattle.tomex_symbols.specs.Sections.{tables_of}
use Rattle.tomex_symbols.specs.Symbols.{has_symbols, kind_at, symbol_of_kind, symbols_from, symbols_in, symbols_of}
use Rattle.tomex_cut.specs.Cut.{IsCutWithSymbols}
use Rattle.tomex_cut.specs.Laws.{AreAlike, HaveSameFunctions}
use Rattle.tomex_cut.specs.SymbolFile.{entry_of, is_local, listing, names_in, section_headers}
use Rattle.tomex_cut.specs.SymbolFile.{section_names, start_in, symbol_table}
use Rattle.tomex_cut.proofs.Copies.{CanBeRead, copies, read_all}
use Rattle.tomex_cut.proofs.Counted.{IsCounted, are_tables, counted_from, few_symbols}
use Rattle.tomex_cut.proofs.Loading.{memory_fills}
use Rattle.tomex_cut.proofs.Names.{HasNames, still_alike, still_read}
use Rattle.tomex_cut.proofs.SameFunctions.{Ascend, ascend_from, same_functions}
use Rattle.tomex_cut.proofs.Sections.{HasSections, front, front_size, has_sections_of, names_section}

-- numbers rise along a table, and along copies

ascend_one : (bytes : List ℕ) (names : Section) (k i : ℕ) (o : Option Kind) (rest : List Symbol) → Ascend (k + 1) rest
    → Ascend k (symbol_of_kind bytes names k i o ++ rest)
ascend_one bytes names k i None rest h = ascend_from k (k + 1) rest (omega arith) h
ascend_one bytes names k i (Some kind) rest h = (omega arith, h)

ascends_from : (bytes : List ℕ) (t : Tables) (k n : ℕ) → Ascend k (symbols_from bytes t k n)
ascends_from bytes t k zero = tt
ascends_from bytes t k (suc n) =
    let i = t.symbols.offset + 16 * k in
    ascend_one bytes t.names k i (kind_at bytes t.names i) (symbols_from bytes t (k + 1) n)
    (ascends_from bytes t (k + 1) n)

ascends_in : (bytes : List ℕ) (o : Option Tables) → Ascend 0 (symbols_in bytes o)
ascends_in bytes None = tt
ascends_in bytes (Some t) = ascends_from bytes t 0 (t.symbols.size / 16)

ascends_copied : (names : Section) (start k : ℕ) (ss : List Symbol) → Ascend k (copies names start k ss)
ascends_copied names start k [] = tt
ascends_copied names start k (s ∷ ss) = (omega arith, ascends_copied names start (k + 1) ss)

-- the parts of the file

entries_length : (start : ℕ) (ss : List Symbol) → length (flat_map (entry_of start) ss) ≡ 16 * length ss
entries_length start [] = refl
entries_length start (s ∷ ss) = omega (
  arith,
  length-append (entry_of start s) (flat_map (entry_of start) ss),
  entries_length start ss,
)

abbrev listed : Span → ℕ → List ℕ → List Symbol → ℕ → List ℕ → List ℕ
listed window entry memory ss start names = front window entry memory ++ listing window ss start names

-- a file of symbols and names that aren't too many
record IsListed (window : Span) (memory : List ℕ) (ss : List Symbol) (names : List ℕ) : Type 0 where
  size : length memory ≡ window.size
  small : window.size ≤ 2 ^ 20
  few : length ss ≤ 2 ^ 24
  short : length names ≤ 2 ^ 28

listed_sections : (window : Span) (entry : ℕ) (memory : List ℕ) (ss : List Symbol) (start : ℕ) (names : List ℕ)
    → IsListed window memory ss names
    → HasSections (listed window entry memory ss start names) window (length ss) (length names)
listed_sections window entry memory ss start names h =
    let entries = flat_map (entry_of start) ss in
    let zeros : List ℕ = replicate 16 0 in
    has_sections_of window entry memory (zeros ++ (entries ++ (names ++ section_names))) (length ss)
    (length (take_while is_local ss)) (length names) h.size h.small h.few h.short (omega (
      arith,
      length-append entries (names ++ section_names),
      length-append names section_names,
      entries_length start ss,
    ))

listed_symbols : (window : Span) (entry : ℕ) (memory : List ℕ) (ss : List Symbol) (start : ℕ) (names : List ℕ)
    → IsListed window memory ss names
    → All (CanBeRead (listed window entry memory ss start names) (names_section window (length ss) (length names))
    start) ss → symbols_of (listed window entry memory ss start names)
    ≡ copies (names_section window (length ss) (length names)) start 1 ss
listed_symbols window entry memory ss start names h all =
    let before = front window entry memory in
    let headers = section_headers window (length ss) (length (take_while is_local ss)) (length names) in
    let zeros : List ℕ = replicate 16 0 in
    let rest = zeros ++ (flat_map (entry_of start) ss ++ (names ++ section_names)) in
    read_all (listed window entry memory ss start names) window (length names) start ss (before ++ headers)
    (names ++ section_names) (listed_sections window entry memory ss start names h)
    (sym (append_assoc before headers rest))
    (omega (arith, length-append before headers, front_size window entry memory h.size)) all

listed_names : (window : Span) (entry : ℕ) (memory : List ℕ) (ss : List Symbol) (bytes : List ℕ) (old : Section)
    → IsListed window memory ss (take old.size (drop old.offset bytes)) → old.offset + old.size ≤ length bytes
    → HasNames bytes old (listed window entry memory ss old.offset (take old.size (drop old.offset bytes)))
    (names_section window (length ss) (length (take old.size (drop old.offset bytes))))
listed_names window entry memory ss bytes old h inside =
    let names = take old.size (drop old.offset bytes) in
    let before = front window entry memory in
    let headers = section_headers window (length ss) (length (take_while is_local ss)) (length names) in
    let table = symbol_table old.offset ss in
    let entries = flat_map (entry_of old.offset) ss in
    record {
      before = (before ++ headers) ++ table;
      split = sym (append_assoc (before ++ headers) table (names ++ section_names)
          ∙ append_assoc before headers (table ++ (names ++ section_names)));
      at = omega (
        arith,
        length-append (before ++ headers) table,
        length-append before headers,
        front_size window entry memory h.size,
        entries_length old.offset ss,
      );
      size = omega (arith, length-take old.size (drop old.offset bytes), length-drop old.offset bytes);
      inside = inside;
    }

alike_copies : (bytes : List ℕ) (old : Section) (file : List ℕ) (new : Section) (k : ℕ) (ss : List Symbol)
    → HasNames bytes old file new → All (IsCounted bytes old) ss
    → AreAlike bytes ss file (copies new old.offset k ss)
alike_copies bytes old file new k [] h all = tt
alike_copies bytes old file new k (s ∷ ss) h all = (
  still_alike bytes old file new k s h (All-head (IsCounted bytes old) s ss all),
  alike_copies bytes old file new (k + 1) ss h (All-tail (IsCounted bytes old) s ss all),
)

-- the symbols of a file and those of the new one: alike, and numbered from 1 on
record AreListed (bytes : List ℕ) (ss : List Symbol) (file : List ℕ) : Type 0 where
  alike : AreAlike bytes ss file (symbols_of file)
  ascend : Ascend 1 (symbols_of file)

listed_as : (bytes : List ℕ) (ss : List Symbol) (file : List ℕ) (new : Section) (start : ℕ)
    → symbols_of file ≡ copies new start 1 ss → AreAlike bytes ss file (copies new start 1 ss)
    → AreListed bytes ss file
listed_as bytes ss file new start e alike = record {
  alike = subst (AreAlike bytes ss file) (sym e) alike;
  ascend = subst (Ascend 1) (sym e) (ascends_copied new start 1 ss);
}

listed_in : (bytes : List ℕ) (o : Option Tables) (window : Span) (entry : ℕ) (memory : List ℕ) → tables_of bytes ≡ o
    → length bytes ≤ 2 ^ 28 → ((k : ℕ) → slice_index bytes k < 256) → length memory ≡ window.size
    → window.size ≤ 2 ^ 20 → length (symbols_in bytes o) ≤ 2 ^ 24
    → AreListed bytes (symbols_in bytes o)
    (listed window entry memory (symbols_in bytes o) (start_in o) (names_in bytes o))
listed_in bytes None window entry memory e short small size fits few =
    let file = listed window entry memory [] 0 [] in
    let h : IsListed window memory [] [] = record {
      size = size;
      small = fits;
      few = omega arith;
      short = omega arith;
    } in
    let same = listed_symbols window entry memory [] 0 [] h (λ k d l. absurd (omega arith)) in
    listed_as bytes [] file (names_section window 0 0) 0 same tt
listed_in bytes (Some t) window entry memory e short small size fits few =
    let ss = symbols_from bytes t 0 (t.symbols.size / 16) in
    let names = take t.names.size (drop t.names.offset bytes) in
    let file = listed window entry memory ss t.names.offset names in
    let new = names_section window (length ss) (length names) in
    let inside = (are_tables bytes t e).names in
    let h : IsListed window memory ss names = record {
      size = size;
      small = fits;
      few = few;
      short = omega (arith, length-take t.names.size (drop t.names.offset bytes), length-drop t.names.offset bytes);
    } in
    let kept = listed_names window entry memory ss bytes t.names h inside in
    let counted = counted_from bytes t 0 (t.symbols.size / 16) in
    let read = All-weaker (IsCounted bytes t.names) (CanBeRead file new t.names.offset)
    (λ s c. still_read bytes t.names file new s small kept c) ss counted in
    let same = listed_symbols window entry memory ss t.names.offset names h read in
    listed_as bytes ss file new t.names.offset same (alike_copies bytes t.names file new 1 ss kept counted)

cut_listed : (i : Loaded) (bytes : List ℕ) (from least : ℕ) (file : List ℕ) → IsWindow i.window.base i.window.size
    → IsLoaded i.window i.memory i.entry → length bytes ≤ 2 ^ 28 → ((k : ℕ) → slice_index bytes k < 256)
    → IsCutWithSymbols i bytes from least file → AreListed bytes (symbols_of bytes) file
cut_listed i bytes from least file limits loaded short small c =
    let memory = c.cut.memory.bytes in
    subst (AreListed bytes (symbols_of bytes)) (sym c.is_file)
    (listed_in bytes (tables_of bytes) i.window c.cut.place memory refl short small
    (memory_fills i from least c.without limits loaded c.cut) (omega (arith, limits.most))
    (omega (arith, few_symbols bytes)))

pub alike_symbols : (i : Loaded) (bytes : List ℕ) (from least : ℕ) (file : List ℕ)
    → IsWindow i.window.base i.window.size → IsLoaded i.window i.memory i.entry → length bytes ≤ 2 ^ 28
    → ((k : ℕ) → slice_index bytes k < 256) → IsCutWithSymbols i bytes from least file
    → AreAlike bytes (symbols_of bytes) file (symbols_of file)
alike_symbols i bytes from least file limits loaded short small c =
    (cut_listed i bytes from least file limits loaded short small c).alike

pub alike_functions : (i : Loaded) (bytes : List ℕ) (from least : ℕ) (file : List ℕ)
    → IsWindow i.window.base i.window.size → IsLoaded i.window i.memory i.entry → length bytes ≤ 2 ^ 28
    → ((k : ℕ) → slice_index bytes k < 256) → IsCutWithSymbols i bytes from least file
    → HaveSameFunctions bytes file
alike_functions i bytes from least file limits loaded short small c =
    let h = cut_listed i bytes from least file limits loaded short small c in
    λ pc. same_functions bytes file (symbols_of bytes) (symbols_of file) 0 1 pc h.alike
    (ascends_in bytes (tables_of bytes)) h.ascend

alike_count : (old new : List ℕ) (ss ts : List Symbol) → AreAlike old ss new ts → length ts ≡ length ss
alike_count old new [] [] h = refl
alike_count old new (s ∷ ss) (t ∷ ts) h = ap suc (alike_count old new ss ts h.1)
alike_count old new [] (t ∷ ts) h = absurd h
alike_count old new (s ∷ ss) [] h = absurd h

pub as_many : (i : Loaded) (bytes : List ℕ) (from least : ℕ) (file : List ℕ) → IsWindow i.window.base i.window.size
    → IsLoaded i.window i.memory i.entry → length bytes ≤ 2 ^ 28 → ((k : ℕ) → slice_index bytes k < 256)
    → IsCutWithSymbols i bytes from least file → has_symbols file ≡ has_symbols bytes
as_many i bytes from least file limits loaded short small c =
    ap (nat_lt 0) (alike_count bytes file (symbols_of bytes) (symbols_of file)
    (alike_symbols i bytes from least file limits loaded short small c))
