-- The front as a function: which rows are on it, in which order, and that no other list is so.
use Rattle.std.proofs.Common.{◌≡◌, ◌≢◌, ℕ, zero, suc, ◌<◌, ◌⊎◌, ⊎_elim, inl, inr, arith, ap, sym, refl, subst, ◌∙◌}
use Rattle.std.proofs.Common.{All, List, [], ◌∷◌, length, Bool, true, false, not, get_or, ◌==◌}
use Rattle.std.specs.List.{filter, AllByRecursion, AllPairs, Contains, IsDistinct}
use Rattle.std.specs.List.Sorted.{IsPermutation}
use Rattle.std.proofs.lemmas.Bool.{both_ways, cases_Bool, eq-eqb, false_from_ne_true, ne_eqb, not-true}
use Rattle.std.proofs.lemmas.Bool.Decides.{nat_tests}
use Rattle.std.proofs.lemmas.List.Elements.{All-contains, All-contains_itself, All-filter, All-from_recursion}
use Rattle.std.proofs.lemmas.List.Elements.{filter_passes}
use Rattle.std.proofs.lemmas.List.Elements.{recursion_from_All}
use Rattle.std.proofs.lemmas.List.Folds.{list_any-from_Any, list_any_none}
use Rattle.std.proofs.lemmas.List.Kept.{AllPairs-cons, AllPairs-filter}
use Rattle.std.proofs.lemmas.List.Sorted.{All-permutation, Contains-permutation, IsPermutation-cons}
use Rattle.std.proofs.lemmas.List.Sorted.{IsPermutation-middle, IsPermutation-refl, IsPermutation-sym}
use Rattle.std.proofs.lemmas.List.Sorted.{IsPermutation-trans}
use Rattle.std.proofs.lemmas.Map.Keys.{IsDistinct-from_apart, apart_from_distinct}
use Rattle.tomex_pareto.specs.declared.front_row.FrontRow.{FrontRow}
use Rattle.tomex_pareto.specs.Front.{dominates, is_undominated, comes_before, put, by_cost, front_of}
use Rattle.tomex_pareto.specs.Pareto.{ComesBefore, Dominates}

-- r is one of them
abbrev pub Has : List FrontRow → FrontRow → Type 0
Has [] r = ⊥
Has (q ∷ qs) r = (q ≡ r) ⊎ Has qs r

abbrev pub AllOf : (FrontRow → Type 0) → List FrontRow → Type 0
AllOf P rows = AllByRecursion P rows

pub has_at : (rows : List FrontRow) (k : ℕ) (d : FrontRow) → k < length rows → Has rows (get_or rows k d)
has_at [] k d l = absurd (omega arith)
has_at (r ∷ rs) zero d l = inl refl
has_at (r ∷ rs) (suc k) d l = inr (has_at rs k d (omega arith))

pub contains_has : (rows : List FrontRow) (k : ℕ) (r : FrontRow) → k < length rows → get_or rows k r ≡ r → Has rows r
contains_has rows k r l e = subst (Has rows) e (has_at rows k r l)

pub among : (rows : List FrontRow) (r : FrontRow) → Contains rows r → Has rows r
among rows r c = contains_has rows c.0 r c.1 c.2

pub has_contains : (rows : List FrontRow) (r : FrontRow) → Has rows r → Contains rows r
has_contains [] r h = absurd h
has_contains (q ∷ qs) r (inl e) = (0, omega arith, e)
has_contains (q ∷ qs) r (inr t) = let w = has_contains qs r t in let l : w.0 < length qs = w.1 in
    (suc w.0, omega arith, w.2)

pub all_has : (P : FrontRow → Type 0) (qs : List FrontRow) (r : FrontRow) → AllOf P qs → Has qs r → P r
all_has P qs r all h = All-contains P qs r (All-from_recursion P qs all) (has_contains qs r h)

pub all_from : (P : FrontRow → Type 0) (qs : List FrontRow) → ((r : FrontRow) → Has qs r → P r) → AllOf P qs
all_from P qs f = recursion_from_All P qs (λ k d l. f (get_or qs k d) (has_at qs k d l))

-- the same rows in another order

pub has_moved : (xs ys : List FrontRow) (r : FrontRow) → IsPermutation xs ys → Has xs r → Has ys r
has_moved xs ys r moved h = among ys r (Contains-permutation xs ys r moved (has_contains xs r h))

all_moved : (P : FrontRow → Type 0) (xs ys : List FrontRow) → IsPermutation xs ys → AllOf P xs → AllOf P ys
all_moved P xs ys moved all = recursion_from_All P ys (All-permutation P xs ys moved (All-from_recursion P xs all))

-- R holds of each row and each later one
abbrev pub Rises : (FrontRow → FrontRow → Type 0) → List FrontRow → Type 0
Rises R [] = Unit {0}
Rises R (r ∷ rs) = AllOf (R r) rs × Rises R rs

pub rises_pairs : (R : FrontRow → FrontRow → Type 0) (xs : List FrontRow) → Rises R xs → AllPairs R xs
rises_pairs R [] up = λ j k d l m. absurd (omega arith)
rises_pairs R (x ∷ xs) up = AllPairs-cons R x xs (All-from_recursion (R x) xs up.0) (rises_pairs R xs up.1)

pub pairs_rise : (R : FrontRow → FrontRow → Type 0) (xs : List FrontRow) → AllPairs R xs → Rises R xs
pairs_rise R [] f = tt
pairs_rise R (x ∷ xs) f = (
  recursion_from_All (R x) xs (λ k d l. f 0 (suc k) d (omega arith) (omega arith)),
  pairs_rise R xs (λ j k d l m. f (suc j) (suc k) d (omega arith) (omega arith)),
)

-- no two have the same number
abbrev pub AreApart : List FrontRow → Type 0
AreApart rows = Rises (λ a b. a.row ≢ b.row) rows

pub distinct : (rs : List FrontRow) → AreApart rs → IsDistinct (λ a b. a.row == b.row) rs
distinct rs far = IsDistinct-from_apart (λ a b. a.row == b.row) rs
    (λ j k d l m. ne_eqb _ _ (rises_pairs (λ a b. a.row ≢ b.row) rs far j k d l m))

pub apart : (rs : List FrontRow) → IsDistinct (λ a b. a.row == b.row) rs → AreApart rs
apart rs far = pairs_rise (λ a b. a.row ≢ b.row) rs
    (λ j k d l m e. both_ways _ (apart_from_distinct (λ a b. a.row == b.row) rs j k d far l m) (eq-eqb _ _ e))

-- dominance, as numbers

pub beats : (a b : FrontRow) → dominates a b ≡ true → Dominates a b
beats a b e = grind (arith, nat_tests)

pub dominates_so : (a b : FrontRow) → Dominates a b → dominates a b ≡ true
dominates_so a b w = grind (arith, nat_tests)

-- none of them dominates it
abbrev pub IsFree : List FrontRow → FrontRow → Type 0
IsFree rows r = (q : FrontRow) → Has rows q → Dominates q r → ⊥

pub filter_has : (p : FrontRow → Bool) (xs : List FrontRow) (r : FrontRow) → Has xs r → p r ≡ true → Has (filter p xs) r
filter_has p [] r h t = h
filter_has p (x ∷ xs) r (inl i) t = rw (ap p i ∙ t) (inl i)
filter_has p (x ∷ xs) r (inr h) t = let k = filter_has p xs r h t in
    elim (cases_Bool (p x)) [ inl e ↦ rw e (inr k) | inr e ↦ rw e k ]

pub undominated : (rows : List FrontRow) (r : FrontRow) → AllOf (λ q. dominates q r ≡ false) rows
    → is_undominated rows r ≡ true
undominated rows r all = ap not (list_any_none (λ q. dominates q r) rows (All-from_recursion _ rows all))

module _ (rows : List FrontRow) where
  pub undominated_free : (r : FrontRow) → is_undominated rows r ≡ true → IsFree rows r
  undominated_free r e q h w = let c = has_contains rows q h in both_ways _ (not-true _ e)
      (list_any-from_Any (λ q. dominates q r) rows (c.0, q, c.1, c.2, dominates_so q r w))

  pub free_undominated : (r : FrontRow) → IsFree rows r → is_undominated rows r ≡ true
  free_undominated r f = undominated rows r
      (all_from _ rows (λ q h. false_from_ne_true _ (λ e. f q h (beats q r e))))

  -- the undominated rows, in the order of all rows
  abbrev pub kept : List FrontRow
  kept = filter (is_undominated rows) rows

  pub kept_only : (r : FrontRow) → Has kept r → Has rows r × IsFree rows r
  kept_only r h = let c = has_contains kept r h in (
    All-contains (Has rows) kept r (All-filter (is_undominated rows) (Has rows) rows (has_at rows)) c,
    undominated_free r (All-contains (λ x. is_undominated rows x ≡ true) kept r (filter_passes _ rows) c),
  )

  pub kept_all : (r : FrontRow) → Has rows r → IsFree rows r → Has kept r
  kept_all r h f = filter_has (is_undominated rows) rows r h (free_undominated r f)

-- the order by cost, then number

put_moves : (r : FrontRow) (qs : List FrontRow) → IsPermutation (r ∷ qs) (put r qs)
put_moves r [] = IsPermutation-refl (r ∷ [])
put_moves r (q ∷ qs) = elim (cases_Bool (comes_before r q)) [
  | inl e ↦ rw e (IsPermutation-refl (r ∷ q ∷ qs))
  | inr e ↦ rw e (IsPermutation-trans (r ∷ q ∷ qs) (q ∷ r ∷ qs) (q ∷ put r qs)
      (IsPermutation-middle (r ∷ []) q qs) (IsPermutation-cons q (r ∷ qs) (put r qs) (put_moves r qs)))
]

pub ordered_moves : (rs : List FrontRow) → IsPermutation rs (by_cost rs)
ordered_moves [] = IsPermutation-refl []
ordered_moves (r ∷ rs) = IsPermutation-trans (r ∷ rs) (r ∷ by_cost rs) (by_cost (r ∷ rs))
    (IsPermutation-cons r rs (by_cost rs) (ordered_moves rs)) (put_moves r (by_cost rs))

-- so what is kept of rows and ordered is of these rows
pub kept_there : (keep : FrontRow → Bool) (rows : List FrontRow) → All (Contains rows) (by_cost (filter keep rows))
kept_there keep rows =
    let those = filter keep rows in
    All-permutation (Contains rows) those (by_cost those) (ordered_moves those)
    (All-filter keep (Contains rows) rows (All-contains_itself rows))

rises_put : (r : FrontRow) (qs : List FrontRow) → Rises ComesBefore qs → AllOf (λ q. r.row ≢ q.row) qs
    → Rises ComesBefore (put r qs)
rises_put r [] up apart = (tt, tt)
rises_put r (q ∷ qs) up apart = elim (cases_Bool (comes_before r q)) [
  | inl e ↦
      let rest = all_from (ComesBefore r) qs (λ s h. grind (arith, nat_tests, all_has (ComesBefore q) qs s up.0 h)) in
      rw e ((e, rest), up)
  | inr e ↦
      let moved = all_moved (ComesBefore q) (r ∷ qs) (put r qs) (put_moves r qs) (grind (arith, nat_tests), up.0) in
      rw e (moved, rises_put r qs up.1 apart.1)
]

pub rises_ordered : (rs : List FrontRow) → AreApart rs → Rises ComesBefore (by_cost rs)
rises_ordered [] apart = tt
rises_ordered (r ∷ rs) apart = rises_put r (by_cost rs) (rises_ordered rs apart.1)
    (all_moved (λ q. r.row ≢ q.row) rs (by_cost rs) (ordered_moves rs) apart.0)

-- two rising lists of the same rows are equal

same_head : (x y : FrontRow) (xs ys : List FrontRow) → AllOf (ComesBefore x) xs → AllOf (ComesBefore y) ys
    → Has (y ∷ ys) x → Has (x ∷ xs) y → y ≡ x
same_head x y xs ys ux uy h k =
    grind (arith, nat_tests, all_has (ComesBefore x) xs y ux, all_has (ComesBefore y) ys x uy)

same_tail : (x : FrontRow) (xs ys : List FrontRow) → AllOf (ComesBefore x) xs
    → ((r : FrontRow) → Has (x ∷ xs) r → Has (x ∷ ys) r) → (r : FrontRow) → Has xs r → Has ys r
same_tail x xs ys up f r h = ⊎_elim
    (λ (i : x ≡ r). let b = subst (ComesBefore x) (sym i) (all_has (ComesBefore x) xs r up h) in
    absurd (grind (arith, nat_tests))) (λ (t : Has ys r). t) (f r (inr h))

pub same_rows : (xs ys : List FrontRow) → Rises ComesBefore xs → Rises ComesBefore ys
    → ((r : FrontRow) → Has xs r → Has ys r) → ((r : FrontRow) → Has ys r → Has xs r) → xs ≡ ys
same_rows [] [] ux uy f g = refl
same_rows [] (y ∷ ys) ux uy f g = absurd (g y (inl refl))
same_rows (x ∷ xs) [] ux uy f g = absurd (f x (inl refl))
same_rows (x ∷ xs) (y ∷ ys) ux uy f g =
    let e : y ≡ x = same_head x y xs ys ux.0 uy.0 (f x (inl refl)) (g y (inl refl)) in
    let same : xs ≡ ys = same_rows xs ys ux.1 uy.1 (same_tail x xs ys ux.0 (λ r h. rw e at (f r h)))
    (same_tail x ys xs (rw e at uy.0) (λ r h. g r (rw e h))) in
    rw (e, same) refl

-- a front of these rows, by recursion
pub record IsSortedFront (rows front : List FrontRow) : Type 0 where
  pub rises : Rises ComesBefore front
  pub only : (r : FrontRow) → Has front r → Has rows r × IsFree rows r
  pub all : (r : FrontRow) → Has rows r → IsFree rows r → Has front r

pub front_is : (rows : List FrontRow) → AreApart rows → IsSortedFront rows (front_of rows)
unfolding front_of
front_is rows apart =
    let those = kept rows in
    let moves = ordered_moves those in
    record {
      rises = rises_ordered those (pairs_rise (λ a b. a.row ≢ b.row) those
          (AllPairs-filter (λ a b. a.row ≢ b.row) (is_undominated rows) rows
          (rises_pairs (λ a b. a.row ≢ b.row) rows apart)));
      only = λ r h. kept_only rows r (has_moved (by_cost those) those r (IsPermutation-sym _ _ moves) h);
      all = λ r h f. has_moved those (by_cost those) r moves (kept_all rows r h f);
    }

pub only_front : (rows front : List FrontRow) → AreApart rows → IsSortedFront rows front → front ≡ front_of rows
only_front rows front apart is =
    let it = front_is rows apart in
    same_rows front (front_of rows) is.rises it.rises (λ r h. let w = is.only r h in
    it.all r w.0 w.1) (λ r h. let w = it.only r h in is.all r w.0 w.1)
