-- Steps of a sweep, and what it finds.
use Rattle.std.proofs.Common.{◌≡◌, ◌≢◌, ℕ, ◌+◌, ◌-◌, ◌<◌, ◌≤◌, ⊎_elim, arith, refl, sym, ap, subst, ◌∙◌}
use Rattle.std.proofs.Common.{Bool, true, false, cond, not, ◌&&◌, nat_eq, nat_lt, nat_le, List, [], ◌∷◌, ◌++◌, length}
use Rattle.std.proofs.Common.{get_or, take, drop, All, Option, Some, None}
use Rattle.std.specs.List.{Contains, list_any, slice_get}
use Rattle.std.proofs.lemmas.Bool.{cases_Bool, eq-eqb, eqb-true, le-leb, le-ltb, lt-ltb, true≢false}
use Rattle.std.proofs.lemmas.Bool.Decides.{nat_tests}
use Rattle.std.proofs.lemmas.List.{take-append-drop, take_all, take_more}
use Rattle.std.proofs.lemmas.Option.{get_or_from_slice_get, slice_get_within}
use Rattle.std.proofs.lemmas.List.Elements.{All-append, All-contains, All-contains_itself, All-push, All-weaker}
use Rattle.std.proofs.lemmas.List.Elements.{Contains-append_cases, Contains-append_left}
use Rattle.std.proofs.lemmas.List.Folds.{list_any_at, list_any_none}
use Rattle.tomex_symbols.specs.declared.symbol.Symbol.{Symbol}
use Rattle.tomex_symbols.specs.Functions.{AreNumbered, begins_after, best, function_at, holds, or_else, reaches}
use Rattle.tomex_symbols.specs.Sweep.{InOrder, IsSwept, Precedes, if_at, is_unsized, last_address, last_of}
use Rattle.tomex_symbols.proofs.Best.{IsBest, IsLast, best_is, cons_cases, extended, here, last_is, nothing, only_one}
use Rattle.tomex_symbols.proofs.Best.{there}
use Rattle.tomex_symbols.proofs.Rising.{Rises, rises, rises_take}

-- one more symbol

or_cond : (b : Bool) (s : Symbol) (o c : Option Symbol) → or_else (cond b (Some s) o) c ≡ cond b (Some s) (or_else o c)
or_cond true s o c = refl
or_cond false s o c = refl

pub last_push : (p : Symbol → Bool) (ss : List Symbol) (s : Symbol)
    → last_of p (ss ++ s ∷ []) ≡ cond (p s) (Some s) (last_of p ss)
last_push p [] s = refl
last_push p (t ∷ ss) s = ap (λ (o : Option Symbol). or_else o (cond (p t) (Some t) None)) (last_push p ss s)
    ∙ or_cond (p s) s (last_of p ss) (cond (p t) (Some t) None)

pub last_address_push : (ss : List Symbol) (s : Symbol) → last_address (ss ++ s ∷ []) ≡ s.address
last_address_push [] s = refl
last_address_push (t ∷ []) s = refl
last_address_push (t ∷ u ∷ ss) s = last_address_push (u ∷ ss) s

-- the addresses that a symbol holds, in numbers

ended : (a n p q : ℕ) → a ≤ p → p ≤ q → (nat_le a p && nat_lt p (a + n)) ≡ false
    → (nat_le a q && nat_lt q (a + n)) ≡ false
ended a n p q l m e = grind (arith, nat_tests)

without_size : (a n q : ℕ) → nat_eq n 0 ≡ true → (nat_le a q && nat_lt q (a + n)) ≡ false
without_size a n q e = grind (arith, nat_tests)

not_begun : (a n q : ℕ) → q < a → (nat_le a q && nat_lt q (a + n)) ≡ false
not_begun a n q l = grind (arith, nat_tests)

-- a symbol that has ended holds none of the addresses to come
last_ended : (pc q : ℕ) (ss : List Symbol) (s : Symbol) → s.address ≤ pc → holds pc s ≡ false → pc ≤ q
    → last_of (holds q) ss ≡ last_of (holds q) (ss ++ s ∷ [])
last_ended pc q ss s l e m =
    sym (last_push (holds q) ss s ∙ ap (λ (b : Bool). cond b (Some s) (last_of (holds q) ss))
    (ended s.address s.size pc q l m e))

last_held : (pc : ℕ) (ss : List Symbol) (s : Symbol) → holds pc s ≡ true
    → Some s ≡ last_of (holds pc) (ss ++ s ∷ [])
last_held pc ss s e =
    sym (last_push (holds pc) ss s ∙ ap (λ (b : Bool). cond b (Some s) (last_of (holds pc) ss)) e)

split_last : (ss : List Symbol) (s : Symbol) → slice_get ss (length ss - 1) ≡ Some s
    → take (length ss - 1) ss ++ s ∷ [] ≡ ss
split_last ss s e =
    let l = slice_get_within ss (length ss - 1) s e in
    let n : length ss ≤ length ss - 1 + 1 = omega arith in
    sym (ap (λ (z : Symbol). take (length ss - 1) ss ++ z ∷ []) (get_or_from_slice_get ss (length ss - 1) s s e))
    ∙ (sym (take_more ss (length ss - 1) s l) ∙ take_all (length ss - 1 + 1) ss n)

pub found_last : (pc : ℕ) (ss : List Symbol) (s : Symbol) → slice_get ss (length ss - 1) ≡ Some s → holds pc s ≡ true
    → Some s ≡ last_of (holds pc) ss
found_last pc ss s e f = last_held pc (take (length ss - 1) ss) s f ∙ ap (last_of (holds pc)) (split_last ss s e)

pub dropped_last : (pc q : ℕ) (ss : List Symbol) (s : Symbol) → slice_get ss (length ss - 1) ≡ Some s
    → All (λ t. t.address ≤ pc) ss → holds pc s ≡ false → pc ≤ q
    → last_of (holds q) (take (length ss - 1) ss) ≡ last_of (holds q) ss
dropped_last pc q ss s e b f m =
    let l = slice_get_within ss (length ss - 1) s e in
    let a : s.address ≤ pc = subst (λ (z : Symbol). z.address ≤ pc)
    (get_or_from_slice_get ss (length ss - 1) s s e) (b (length ss - 1) s l) in
    last_ended pc q (take (length ss - 1) ss) s a f m ∙ ap (last_of (holds q)) (split_last ss s e)

-- the sweep

pub swept_first : (sorted : List Symbol) (pc : ℕ) → IsSwept sorted 0 [] None 0 pc
swept_first sorted pc = record {
  within = omega arith;
  begins = λ k d l. absurd (omega arith);
  nested_begins = λ k d l. absurd (omega arith);
  innermost = λ q l. refl;
  last_unsized = refl;
  last_begins = refl;
}

pub swept_later : {sorted : List Symbol} {k : ℕ} {nested : List Symbol} {label : Option Symbol} {latest p : ℕ} (q : ℕ)
    → IsSwept sorted k nested label latest p → p ≤ q → IsSwept sorted k nested label latest q
swept_later {p} q h l = record {
  within = h.within;
  begins = All-weaker (λ s. s.address ≤ p) (λ s. s.address ≤ q) (λ s m. omega arith) _ h.begins;
  nested_begins = All-weaker (λ s. s.address ≤ p) (λ s. s.address ≤ q) (λ s m. omega arith) _ h.nested_begins;
  innermost = λ r m. h.innermost r (omega arith);
  last_unsized = h.last_unsized;
  last_begins = h.last_begins;
}

-- the part that a symbol without a size, or with one, changes
pub swept_next : (sorted : List Symbol) (k : ℕ) (nested : List Symbol) (label : Option Symbol) (latest pc : ℕ)
    (s d : Symbol) → IsSwept sorted k nested label latest pc → k < length sorted → s ≡ get_or sorted k d
    → s.address ≤ pc → IsSwept sorted (k + 1) (cond (is_unsized s) nested (nested ++ s ∷ []))
    (cond (is_unsized s) (Some s) label) s.address pc
swept_next sorted k nested label latest pc s d h l e m =
    let t : take (k + 1) sorted ≡ take k sorted ++ s ∷ [] =
    take_more sorted k d l ∙ ap (λ (z : Symbol). take k sorted ++ z ∷ []) (sym e) in
    record {
      within = omega arith;
      begins = rw t (All-push (λ z. z.address ≤ pc) (take k sorted) s h.begins m);
      nested_begins = ⊎_elim
          (λ (u : is_unsized s ≡ true). rw u h.nested_begins)
          (λ (u : is_unsized s ≡ false). rw u (All-push (λ z. z.address ≤ pc) nested s h.nested_begins m))
          (cases_Bool (is_unsized s));
      innermost = λ q n. rw (t, last_push (holds q) (take k sorted) s) (⊎_elim
          (λ (u : is_unsized s ≡ true). rw (u, without_size s.address s.size q u) (h.innermost q n))
          (λ (u : is_unsized s ≡ false). rw (u, last_push (holds q) nested s, h.innermost q n) refl)
          (cases_Bool (is_unsized s)));
      last_unsized = rw (t, last_push is_unsized (take k sorted) s)
          (ap (λ (o : Option Symbol). cond (is_unsized s) (Some s) o) h.last_unsized);
      last_begins = rw (t, last_address_push (take k sorted) s) refl;
    }

-- a symbol that holds an address, or reaches to it, begins at or before it

pub inner_is : (pc : ℕ) (ss ts : List Symbol) → Rises ss → All (λ t. pc < t.address) ts
    → IsBest (holds pc) (ss ++ ts) (last_of (holds pc) ss)
inner_is pc ss ts r h = extended (holds pc) ss ts (last_of (holds pc) ss) (last_is (holds pc) ss r)
    (λ t c. not_begun t.address t.size pc (All-contains (λ s. pc < s.address) ts t h c))

-- the last symbol of a list begins last

begins_up_to : (ss : List Symbol) (t : Symbol) → Rises ss → Contains ss t → t.address ≤ last_address ss
begins_up_to [] t r c = absurd (nothing t c)
begins_up_to (s ∷ []) t r c =
    ⊎_elim (λ (e : s ≡ t). subst (λ (z : Symbol). z.address ≤ s.address) e (omega arith))
    (λ (d : Contains [] t). absurd (nothing t d)) (cons_cases s [] t c)
begins_up_to (s ∷ u ∷ ss) t r c =
    ⊎_elim
    (λ (e : s ≡ t). subst (λ (z : Symbol). z.address ≤ last_address (u ∷ ss)) e
    (let m = (All-contains (Precedes s) (u ∷ ss) u r.0 (here u ss)).address in
    let n = begins_up_to (u ∷ ss) u r.1 (here u ss) in
    omega arith))
    (λ (d : Contains (u ∷ ss) t). begins_up_to (u ∷ ss) t r.1 d)
    (cons_cases s (u ∷ ss) t c)

record BeginsLast (ss : List Symbol) : Type 0 where
  last : Symbol
  one : Contains ss last
  address : last.address ≡ last_address ss

one_begins_last : (ss : List Symbol) (t : Symbol) → Contains ss t → BeginsLast ss
one_begins_last [] t c = absurd (nothing t c)
one_begins_last (s ∷ []) t c = record { last = s; one = here s []; address = refl }
one_begins_last (s ∷ u ∷ ss) t c = let w = one_begins_last (u ∷ ss) u (here u ss) in
    record { last = w.last; one = there s (u ∷ ss) w.last w.one; address = w.address }

-- the tests of a symbol without a size

sized_apart : (n a pc : ℕ) (b : Bool) → nat_eq n 0 ≡ false → (nat_eq n 0 && nat_le a pc && not b) ≡ false
sized_apart n a pc b e = rw e refl

later_apart : (n a pc : ℕ) (b : Bool) → pc < a → (nat_eq n 0 && nat_le a pc && not b) ≡ false
later_apart n a pc b l = grind (arith, nat_tests)

passed_apart : (n a pc : ℕ) (b : Bool) → b ≡ true → (nat_eq n 0 && nat_le a pc && not b) ≡ false
passed_apart n a pc true e = grind (arith, nat_tests)
passed_apart n a pc false e = absurd (true≢false (sym e))

all_three : (n a pc : ℕ) (b : Bool) → nat_eq n 0 ≡ true → a ≤ pc → b ≡ false
    → (nat_eq n 0 && nat_le a pc && not b) ≡ true
all_three n a pc b e l f = rw (e, f, le-leb a pc l) refl

first_two : (n a pc : ℕ) (b : Bool) → (nat_eq n 0 && nat_le a pc && not b) ≡ true → (nat_eq n 0 ≡ true) × (a ≤ pc)
first_two n a pc b e = grind (arith, nat_tests)

begins_within : (a b pc : ℕ) → a < b → b ≤ pc → (nat_lt a b && nat_le b pc) ≡ true
begins_within a b pc l m = rw (lt-ltb a b l, le-leb b pc m) refl

begins_apart : (a b pc : ℕ) → b ≤ a → (nat_lt a b && nat_le b pc) ≡ false
begins_apart a b pc l = rw (le-ltb a b l) refl

begins_beyond : (a b pc : ℕ) → pc < b → (nat_lt a b && nat_le b pc) ≡ false
begins_beyond a b pc l = grind (arith, nat_tests)

-- no symbol begins after the last
none_after : (pc : ℕ) (ss ts : List Symbol) (s : Symbol) → Rises ss → All (λ t. pc < t.address) ts
    → s.address ≡ last_address ss → list_any (λ t. begins_after s.address pc t) (ss ++ ts) ≡ false
none_after pc ss ts s r h e =
    list_any_none (λ t. begins_after s.address pc t) (ss ++ ts) (All-append
    (λ t. begins_after s.address pc t ≡ false) ss ts
    (All-weaker (Contains ss) (λ t. begins_after s.address pc t ≡ false)
    (λ t c. let l = begins_up_to ss t r c in begins_apart s.address t.address pc (omega arith))
    ss (All-contains_itself ss))
    (All-weaker (λ t. pc < t.address) (λ t. begins_after s.address pc t ≡ false)
    (λ t l. begins_beyond s.address t.address pc l) ts h))

-- a symbol does, if it begins after s
one_after : (pc : ℕ) (ss : List Symbol) (s t : Symbol) → Contains ss t → s.address < t.address → t.address ≤ pc
    → list_any (λ u. begins_after s.address pc u) ss ≡ true
one_after pc ss s t c l m =
    list_any_at (λ u. begins_after s.address pc u) ss c.0 t c.1
    (subst (λ (z : Symbol). begins_after s.address pc z ≡ true) (sym c.2) (begins_within s.address t.address pc l m))

label_at : (pc : ℕ) (ss ts : List Symbol) (o : Option Symbol) → Rises ss → All (λ s. s.address ≤ pc) ss
    → All (λ t. pc < t.address) ts → IsBest is_unsized ss o
    → IsBest (reaches (ss ++ ts) pc) (ss ++ ts) (if_at (last_address ss) o)
label_at pc ss ts None r b h i = λ t c. ⊎_elim
    (λ (d : Contains ss t). sized_apart t.size t.address pc _ (i t d))
    (λ (d : Contains ts t). later_apart t.size t.address pc _ (All-contains (λ s. pc < s.address) ts t h d))
    (Contains-append_cases ss ts t c)
label_at pc ss ts (Some s) r b h i =
    ⊎_elim
    (λ (e : nat_eq s.address (last_address ss) ≡ true).
    subst (λ (x : Bool). IsBest (reaches (ss ++ ts) pc) (ss ++ ts) (cond x (Some s) None)) (sym e)
    (label_last (eqb-true s.address (last_address ss) e)))
    (λ (e : nat_eq s.address (last_address ss) ≡ false).
    subst (λ (x : Bool). IsBest (reaches (ss ++ ts) pc) (ss ++ ts) (cond x (Some s) None)) (sym e)
    (label_passed (λ f. true≢false (sym (eq-eqb s.address (last_address ss) f) ∙ e))))
    (cases_Bool (nat_eq s.address (last_address ss)))
  where
    label_last : s.address ≡ last_address ss → IsLast (reaches (ss ++ ts) pc) (ss ++ ts) s
    label_last e = record {
      one = Contains-append_left ss ts s i.one;
      passes = all_three s.size s.address pc _ i.passes (All-contains (λ t. t.address ≤ pc) ss s b i.one)
          (none_after pc ss ts s r h e);
      most = λ t c f. let w = first_two t.size t.address pc _ f in ⊎_elim
          (λ (d : Contains ss t). i.most t d w.0)
          (λ (d : Contains ts t). let l = All-contains (λ u. pc < u.address) ts t h d in
          let m = w.1 in absurd (omega arith))
          (Contains-append_cases ss ts t c);
    }

    label_passed : s.address ≢ last_address ss → (t : Symbol) → Contains (ss ++ ts) t
        → reaches (ss ++ ts) pc t ≡ false
    label_passed d t c = ⊎_elim
        (λ (k : Contains ss t). ⊎_elim
        (λ (u : is_unsized t ≡ true).
        let w = one_begins_last ss t k in
        let l = (i.most t k u).address in
        let m = begins_up_to ss s r i.one in
        let n = w.address in
        let before : t.address < w.last.address = omega arith in
        let by = All-contains (λ z. z.address ≤ pc) ss w.last b w.one in
        passed_apart t.size t.address pc _
        (one_after pc (ss ++ ts) t w.last (Contains-append_left ss ts w.last w.one) before by))
        (λ (u : is_unsized t ≡ false). sized_apart t.size t.address pc _ u)
        (cases_Bool (is_unsized t)))
        (λ (k : Contains ts t). later_apart t.size t.address pc _ (All-contains (λ u. pc < u.address) ts t h k))
        (Contains-append_cases ss ts t c)

-- the symbol that a sweep finds at an address is its function
pub swept_function : (sorted : List Symbol) (k : ℕ) (nested : List Symbol) (label : Option Symbol) (latest pc : ℕ)
    → InOrder sorted → AreNumbered sorted → IsSwept sorted k nested label latest pc
    → All (λ s. pc < s.address) (drop k sorted)
    → or_else (last_of (holds pc) nested) (if_at latest label) ≡ function_at sorted pc
swept_function sorted k nested label latest pc o n h f =
    let xs = take k sorted in
    let ys = drop k sorted in
    let r : Rises xs = rises_take k sorted (rises sorted o) in
    let e : xs ++ ys ≡ sorted = take-append-drop k sorted in
    let inner : last_of (holds pc) nested ≡ best (holds pc) sorted =
    h.innermost pc (omega arith)
    ∙ only_one (holds pc) sorted (last_of (holds pc) xs) (best (holds pc) sorted) n
    (subst (λ (z : List Symbol). IsBest (holds pc) z (last_of (holds pc) xs)) e (inner_is pc xs ys r f))
    (best_is (holds pc) sorted) in
    let outer : if_at latest label ≡ best (reaches sorted pc) sorted =
    ap (λ (a : ℕ). if_at a label) h.last_begins
    ∙ (ap (λ (z : Option Symbol). if_at (last_address xs) z) h.last_unsized
    ∙ only_one (reaches sorted pc) sorted _ (best (reaches sorted pc) sorted) n
    (subst (λ (z : List Symbol). IsBest (reaches z pc) z (if_at (last_address xs) (last_of is_unsized xs))) e
    (label_at pc xs ys (last_of is_unsized xs) r h.begins f (last_is is_unsized xs r)))
    (best_is (reaches sorted pc) sorted)) in
    ap (λ (z : Option Symbol). or_else z (if_at latest label)) inner
    ∙ ap (λ (z : Option Symbol). or_else (best (holds pc) sorted) z) outer
