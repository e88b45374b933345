-- Pairs of different rows by ratio: in the order of a sort, and as the definition puts them.
use Rattle.std.proofs.Common.{◌≡◌, ◌≢◌, ◌<◌, ◌≤◌, arith, inl, inr, ℕ, List, [], ◌∷◌, get_or, length, true, ◌==◌}
use Rattle.std.proofs.lemmas.Bool.Decides.{nat_tests}
use Rattle.std.proofs.lemmas.Bool.{both_ways, cases_Bool, eq-eqb}
use Rattle.std.proofs.lemmas.List.Elements.{recursion_from_All}
use Rattle.std.specs.List.{AllByRecursion, IsDistinct}
use Rattle.std.specs.List.Sorted.{IsPermutation, IsSortedBy}
use Rattle.std.proofs.lemmas.List.Sorted.{All-permutation, IsPermutation-cons, IsPermutation-middle, IsPermutation-refl}
use Rattle.std.proofs.lemmas.List.Sorted.{IsPermutation-sym, IsPermutation-trans, sorted_far}
use Rattle.std.proofs.lemmas.Map.Keys.{IsDistinct-IsPermutation, apart_from_distinct}
use Rattle.tomex_compare.specs.Pairs.{AreComparable, by_ratio, goes_before, put}
use Rattle.tomex_compare.specs.declared.pairs.Pair.{Pair}
use Rattle.tomex_compare.proofs.Ratios.{goes_chain, goes_else, goes_one_way, not_preceded, precedes, precedes_ranks}
use Rattle.tomex_compare.proofs.Sorting.{Rises, all_from, all_has, all_moved, has_moved, pairs_rise, rises_pairs}
use Rattle.tomex_compare.proofs.Sorting.{same_items}

abbrev pub GoesBefore : Pair → Pair → Type 0
GoesBefore a b = goes_before a b ≡ true

-- the new cycles can be compared with the old ones
abbrev pub HasRatio : Pair → Type 0
HasRatio p = 1 ≤ p.old

abbrev pub IsApart : Pair → Pair → Type 0
IsApart a b = a.row ≢ b.row

put_moves : (p : Pair) (qs : List Pair) → IsPermutation (p ∷ qs) (put p qs)
put_moves p [] = IsPermutation-refl (p ∷ [])
put_moves p (q ∷ qs) = elim (cases_Bool (goes_before p q)) [
  | inl e ↦ rw e (IsPermutation-refl (p ∷ q ∷ qs))
  | inr e ↦ rw e (IsPermutation-trans (p ∷ q ∷ qs) (q ∷ p ∷ qs) (q ∷ put p qs)
      (IsPermutation-middle (p ∷ []) q qs) (IsPermutation-cons q (p ∷ qs) (put p qs) (put_moves p qs)))
]

pub by_ratio_moves : (ps : List Pair) → IsPermutation ps (by_ratio ps)
by_ratio_moves [] = IsPermutation-refl []
by_ratio_moves (p ∷ ps) = IsPermutation-trans (p ∷ ps) (p ∷ by_ratio ps) (by_ratio (p ∷ ps))
    (IsPermutation-cons p ps (by_ratio ps) (by_ratio_moves ps)) (put_moves p (by_ratio ps))

rises_put : (p : Pair) (qs : List Pair) → HasRatio p → AllByRecursion HasRatio qs → AllByRecursion (IsApart p) qs
    → Rises GoesBefore qs → Rises GoesBefore (put p qs)
rises_put p [] own some apart up = (tt, tt)
rises_put p (q ∷ qs) own some apart up = elim (cases_Bool (goes_before p q)) [
  | inl e ↦
      let rest = all_from (GoesBefore p) qs (λ s h. goes_chain p q s own some.0 (all_has HasRatio qs s some.1 h) e
      (all_has (GoesBefore q) qs s up.0 h)) in
      rw e ((e, rest), up)
  | inr e ↦
      let moved = all_moved (GoesBefore q) (p ∷ qs) (put p qs) (put_moves p qs)
      (goes_else p q apart.0 e, up.0) in
      rw e (moved, rises_put p qs own some.1 apart.1 up.1)
]

pub by_ratio_rises : (ps : List Pair) → AllByRecursion HasRatio ps → Rises IsApart ps → Rises GoesBefore (by_ratio ps)
by_ratio_rises [] some apart = tt
by_ratio_rises (p ∷ ps) some apart = rises_put p (by_ratio ps) some.0
    (all_moved HasRatio ps (by_ratio ps) (by_ratio_moves ps) some.1)
    (all_moved (IsApart p) ps (by_ratio ps) (by_ratio_moves ps) apart.0) (by_ratio_rises ps some.1 apart.1)

pub rows_apart : (ps : List Pair) → IsDistinct (λ a b. a.row == b.row) ps → Rises IsApart ps
rows_apart ps far = pairs_rise IsApart ps
    (λ j k d l m e. both_ways _ (apart_from_distinct (λ a b. a.row == b.row) ps j k d far l m) (eq-eqb _ _ e))

-- so a sort of them by their order is what the definition says
pub sorted_is : (ps sorted : List Pair) → AreComparable ps → IsPermutation ps sorted → IsSortedBy precedes sorted
    → sorted ≡ by_ratio ps
sorted_is ps sorted are moved order =
    let ordered = by_ratio_moves ps in
    let back = IsPermutation-sym ps sorted moved in
    let some = All-permutation HasRatio ps sorted moved are.some in
    let far = rises_pairs IsApart sorted (rows_apart sorted (IsDistinct-IsPermutation (λ a b. a.row == b.row)
    (λ a b. eqb_flips a.row b.row) ps sorted moved are.numbered)) in
    same_items GoesBefore goes_one_way sorted (by_ratio ps)
    (pairs_rise GoesBefore sorted (λ j k d l m.
    let n : j < length sorted = omega (arith, l, m) in
    not_preceded (get_or sorted j d) (get_or sorted k d) (some j d n) (some k d m)
    (far j k d l m) (sorted_far precedes precedes_ranks sorted order j k d (omega (arith, l)) m)))
    (by_ratio_rises ps (recursion_from_All HasRatio ps are.some) (rows_apart ps are.numbered))
    (λ p h. has_moved ps (by_ratio ps) p ordered (has_moved sorted ps p back h))
    (λ p h. has_moved ps sorted p moved (has_moved (by_ratio ps) ps p (IsPermutation-sym ps (by_ratio ps) ordered) h))
  where
    eqb_flips : (m n : ℕ) → (m == n) ≡ (n == m)
    eqb_flips m n = grind (arith, nat_tests)
