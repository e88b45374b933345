-- Tables, entry by entry; each symbol has a number of its own.
use Rattle.std.proofs.Common.{◌≡◌, ℕ, zero, suc, ◌+◌, ◌*◌, ◌-◌, ◌<◌, ◌≤◌, arith, refl, sym, ap, ◌∙◌, Bool, true}
use Rattle.std.proofs.Common.{false, cond, ◌==◌, List, [], ◌∷◌, ◌++◌, length, Option, Some, None}
use Rattle.std.specs.Prelude.{is_some, nat_lt}
use Rattle.std.specs.List.{AllByRecursion, IsDistinct}
use Rattle.std.proofs.lemmas.Bool.{lt-ltb, ne_eqb}
use Rattle.tomex_symbols.specs.declared.sections.Section.{Section}
use Rattle.tomex_symbols.specs.declared.sections.Tables.{Tables}
use Rattle.tomex_symbols.specs.declared.symbol.Kind.{Kind}
use Rattle.tomex_symbols.specs.declared.symbol.Symbol.{Symbol}
use Rattle.tomex_symbols.specs.Functions.{AreNumbered}
use Rattle.tomex_symbols.specs.Sections.{first_symbol_table, is_symbol_table, section, sections_from, tables_of}
use Rattle.tomex_symbols.specs.Symbols.{symbol_of_kind, counted_at, kind_at, symbols_from, symbols_in, symbols_of}

pub sections_next : (bytes : List ℕ) (count k : ℕ) → k < count → sections_from bytes k (count - k)
    ≡ section bytes k ∷ sections_from bytes (k + 1) (count - (k + 1))
sections_next bytes count k h = let e : count - k ≡ suc (count - (k + 1)) = omega arith in rw e refl

pub sections_end : (bytes : List ℕ) (count k : ℕ) → count ≤ k → sections_from bytes k (count - k) ≡ []
sections_end bytes count k h = let e : count - k ≡ 0 = omega arith in rw e refl

pub symbols_next : (bytes : List ℕ) (t : Tables) (count k : ℕ) → k < count → symbols_from bytes t k (count - k)
    ≡ counted_at bytes t.names k (t.symbols.offset + 16 * k) ++ symbols_from bytes t (k + 1) (count - (k + 1))
symbols_next bytes t count k h = let e : count - k ≡ suc (count - (k + 1)) = omega arith in rw e refl

pub symbols_end : (bytes : List ℕ) (t : Tables) (count k : ℕ) → count ≤ k → symbols_from bytes t k (count - k) ≡ []
symbols_end bytes t count k h = let e : count - k ≡ 0 = omega arith in rw e refl

-- an entry that counts is a symbol, another one is skipped

some_counted : (bytes : List ℕ) (names : Section) (k i : ℕ) (o : Option Kind) (rest : List Symbol) → is_some o ≡ true
    → true ≡ nat_lt 0 (length (symbol_of_kind bytes names k i o ++ rest))
some_counted bytes names k i None rest e = absurd (cc)
some_counted bytes names k i (Some kind) rest e = sym (lt-ltb 0 (suc (length rest)) (omega arith))

none_counted : (bytes : List ℕ) (names : Section) (k i : ℕ) (o : Option Kind) (rest : List Symbol) → is_some o ≡ false
    → symbol_of_kind bytes names k i o ++ rest ≡ rest
none_counted bytes names k i None rest e = refl
none_counted bytes names k i (Some kind) rest e = absurd (cc)

pub entry_counts : (bytes : List ℕ) (t : Tables) (count k : ℕ) (all : List Symbol) → k < count
    → all ≡ symbols_from bytes t k (count - k)
    → is_some (kind_at bytes t.names (t.symbols.offset + 16 * k)) ≡ true → true ≡ nat_lt 0 (length all)
entry_counts bytes t count k all l h e = rw (h ∙ symbols_next bytes t count k l)
    (some_counted bytes t.names k (t.symbols.offset + 16 * k) _ (symbols_from bytes t (k + 1) (count - (k + 1))) e)

pub entry_skipped : (bytes : List ℕ) (t : Tables) (count k : ℕ) (all : List Symbol) → k < count
    → all ≡ symbols_from bytes t k (count - k)
    → is_some (kind_at bytes t.names (t.symbols.offset + 16 * k)) ≡ false
    → all ≡ symbols_from bytes t (k + 1) (count - (k + 1))
entry_skipped bytes t count k all l h e = h ∙ (symbols_next bytes t count k l
    ∙ none_counted bytes t.names k (t.symbols.offset + 16 * k) _ (symbols_from bytes t (k + 1) (count - (k + 1))) e)

-- numbers from k on

abbrev AreFrom : ℕ → List Symbol → Type 0
AreFrom k [] = Unit {0}
AreFrom k (s ∷ ss) = (k ≤ s.number) × AreFrom k ss

from_one : (bytes : List ℕ) (names : Section) (k i j : ℕ) (o : Option Kind) (rest : List Symbol) → j ≤ k
    → AreFrom j rest → AreFrom j (symbol_of_kind bytes names k i o ++ rest)
from_one bytes names k i j None rest l h = h
from_one bytes names k i j (Some kind) rest l h = (l, h)

all_from : (bytes : List ℕ) (t : Tables) (k n j : ℕ) → j ≤ k → AreFrom j (symbols_from bytes t k n)
all_from bytes t k zero j l = tt
all_from bytes t k (suc n) j l =
    from_one bytes t.names k (t.symbols.offset + 16 * k) j _ (symbols_from bytes t (k + 1) n) l
    (all_from bytes t (k + 1) n j (omega arith))

each_apart : (k : ℕ) (ss : List Symbol) → AreFrom (k + 1) ss → AllByRecursion (λ s. (k == s.number) ≡ false) ss
each_apart k [] h = tt
each_apart k (s ∷ ss) h =
    (ne_eqb k s.number (λ f. let l = h.0 in absurd (omega arith)), each_apart k ss h.1)

apart_one : (bytes : List ℕ) (names : Section) (k i : ℕ) (o : Option Kind) (rest : List Symbol) → AreFrom (k + 1) rest
    → AreNumbered rest → AreNumbered (symbol_of_kind bytes names k i o ++ rest)
unfolding IsDistinct
apart_one bytes names k i None rest l h = h
apart_one bytes names k i (Some kind) rest l h = (each_apart k rest l, h)

pub apart_from : (bytes : List ℕ) (t : Tables) (k n : ℕ) → AreNumbered (symbols_from bytes t k n)
unfolding IsDistinct
apart_from bytes t k zero = tt
apart_from bytes t k (suc n) =
    apart_one bytes t.names k (t.symbols.offset + 16 * k) _ (symbols_from bytes t (k + 1) n)
    (all_from bytes t (k + 1) n (k + 1) (omega arith)) (apart_from bytes t (k + 1) n)

apart_in : (bytes : List ℕ) (t : Option Tables) → AreNumbered (symbols_in bytes t)
unfolding IsDistinct
apart_in bytes None = tt
apart_in bytes (Some t) = apart_from bytes t 0 _

pub symbols_numbered : (bytes : List ℕ) → AreNumbered (symbols_of bytes)
symbols_numbered bytes = apart_in bytes (tables_of bytes)

-- the next section is the symbol table, or is skipped

pub table_found : (bytes : List ℕ) (n k : ℕ) (s : Section) (r : Option Section) → k < n → s ≡ section bytes k
    → is_symbol_table s ≡ true → r ≡ first_symbol_table (sections_from bytes k (n - k)) → Some s ≡ r
table_found bytes n k s r l e t h =
    let u : is_symbol_table (section bytes k) ≡ true = ap is_symbol_table (sym e) ∙ t in
    let at = rw (sections_next bytes n k l) at h in
    ap (λ (z : Section). Some z) e
    ∙ (sym (ap (λ (b : Bool). cond b (Some (section bytes k))
    (first_symbol_table (sections_from bytes (k + 1) (n - (k + 1))))) u) ∙ sym at)

pub table_passed : (bytes : List ℕ) (n k : ℕ) (s : Section) (r : Option Section) → k < n → s ≡ section bytes k
    → is_symbol_table s ≡ false → r ≡ first_symbol_table (sections_from bytes k (n - k))
    → r ≡ first_symbol_table (sections_from bytes (k + 1) (n - (k + 1)))
table_passed bytes n k s r l e t h =
    let u : is_symbol_table (section bytes k) ≡ false = ap is_symbol_table (sym e) ∙ t in
    let at = rw (sections_next bytes n k l) at h in
    at ∙ ap (λ (b : Bool). cond b (Some (section bytes k))
    (first_symbol_table (sections_from bytes (k + 1) (n - (k + 1))))) u
