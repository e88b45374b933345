-- The laws of two builds that follow from the order of pairs, and what the tables depend on.
use Rattle.std.proofs.Common.{◌≡◌, ◌∙◌, ap, refl, subst, sym, ℕ, ◌+◌, Bool, true, cond, List, [], ◌∷◌}
use Rattle.std.proofs.Common.{length, map}
use Rattle.std.specs.Prelude.{count_by, sum_by}
use Rattle.std.specs.List.{Contains}
use Rattle.std.specs.List.Sorted.{IsPermutation}
use Rattle.std.proofs.lemmas.Bool.{eq-eqb}
use Rattle.std.proofs.lemmas.List.Elements.{All-from_recursion, recursion_from_All}
use Rattle.std.proofs.lemmas.List.Kept.{AllPairs-filter}
use Rattle.std.proofs.lemmas.List.Sorted.{All-permutation, Contains-permutation, IsPermutation-map, IsPermutation-sym}
use Rattle.std.proofs.lemmas.List.Sorted.{IsPermutation-trans, sum_by-IsPermutation}
use Rattle.std.proofs.lemmas.List.Sums.{sum_by-cons}
use Rattle.tomex_pareto.proofs.OnFront.{contains_map}
use Rattle.tomex_study.specs.Program.{Workload}
use Rattle.tomex_study.specs.Study.{DesignSpace, IsStudy}
use Rattle.tomex_compare.specs.GroupTable.{takes_as_many, takes_fewer}
use Rattle.tomex_compare.specs.Laws.{BoundRatios, ItselfIsTheSame, TurnedCountsChangePlaces, chosen}
use Rattle.tomex_compare.specs.Laws.{TurnedRatiosAreInverse}
use Rattle.tomex_compare.specs.Pairs.{by_ratio, pair_at, pairs_of, row_numbers}
use Rattle.tomex_compare.specs.declared.pairs.Pair.{Pair}
use Rattle.tomex_compare.proofs.ByRatio.{GoesBefore, HasRatio, by_ratio_moves, by_ratio_rises, rows_apart}
use Rattle.tomex_compare.proofs.Comparable.{all_in_range, comparable}
use Rattle.tomex_compare.proofs.Counts.{count_chosen}
use Rattle.tomex_compare.proofs.Ends.{best_is_least, half_at_least, half_at_most, worst_is_greatest}
use Rattle.tomex_compare.proofs.Sorting.{Rises, among, has_contains, has_kept, kept_has, pairs_rise, rises_pairs}
use Rattle.tomex_compare.proofs.Turned.{best_is_inverse, turned}

-- the pairs of a study rise
pairs_ascend : (s : DesignSpace) (old new : Workload) → IsStudy s → Contains s.programs old
    → Rises GoesBefore (pairs_of s old new)
unfolding pairs_of
pairs_ascend s old new is one =
    let are = comparable s old new is one in
    by_ratio_rises (map (pair_at s old new) (row_numbers s)) (recursion_from_All HasRatio _ are.some)
    (rows_apart _ are.numbered)

-- and so those of a group
chosen_ascend : (s : DesignSpace) (old new : Workload) (keeps : ℕ → Bool) → IsStudy s → Contains s.programs old
    → Rises GoesBefore (chosen keeps s old new)
chosen_ascend s old new keeps is one =
    pairs_rise GoesBefore (chosen keeps s old new) (AllPairs-filter GoesBefore (λ p. keeps p.row) (pairs_of s old new)
    (rises_pairs GoesBefore (pairs_of s old new) (pairs_ascend s old new is one)))

pub bound_ratios : BoundRatios
bound_ratios s old new keeps are =
    let up = chosen_ascend s old new keeps are.study are.old_one in
    record {
      least = best_is_least (chosen keeps s old new) up;
      greatest = worst_is_greatest (chosen keeps s old new) up;
      at_most = half_at_most (chosen keeps s old new) up;
      at_least = half_at_least (chosen keeps s old new) up;
    }

-- with the two in each other's place

map_turned : (s : DesignSpace) (old new : Workload) (rows : List ℕ)
    → map turned (map (pair_at s old new) rows) ≡ map (pair_at s new old) rows
map_turned s old new [] = refl
map_turned s old new (row ∷ rows) = ap (λ (ps : List Pair). pair_at s new old row ∷ ps) (map_turned s old new rows)

turned_moves : (s : DesignSpace) (old new : Workload)
    → IsPermutation (map turned (pairs_of s old new)) (pairs_of s new old)
unfolding pairs_of
turned_moves s old new =
    let there = map (pair_at s old new) (row_numbers s) in
    let back = map (pair_at s new old) (row_numbers s) in
    IsPermutation-trans (map turned (by_ratio there)) back (by_ratio back)
    (subst (λ (ps : List Pair). IsPermutation (map turned (by_ratio there)) ps)
    (map_turned s old new (row_numbers s))
    (IsPermutation-map turned (by_ratio there) there (IsPermutation-sym there (by_ratio there) (by_ratio_moves there))))
    (by_ratio_moves back)

sum_turned : (f : Pair → ℕ) (ps : List Pair) → sum_by f (map turned ps) ≡ sum_by (λ p. f (turned p)) ps
sum_turned f [] = refl
sum_turned f (p ∷ ps) =
    sum_by-cons f (turned p) (map turned ps)
    ∙ (ap (λ (n : ℕ). f (turned p) + n) (sum_turned f ps) ∙ sym (sum_by-cons (λ q. f (turned q)) p ps))

pub count_turned : (s : DesignSpace) (old new : Workload) (keeps : ℕ → Bool) (q : Pair → Bool)
    → count_by q (chosen keeps s new old) ≡ count_by (λ p. q (turned p)) (chosen keeps s old new)
count_turned s old new keeps q =
    let f : Pair → ℕ = λ p. cond (keeps p.row) (cond (q p) 1 0) 0 in
    count_chosen q (λ p. keeps p.row) (pairs_of s new old)
    ∙ (sum_by-IsPermutation f (map turned (pairs_of s old new)) (pairs_of s new old) (turned_moves s old new)
    ∙ (sum_turned f (pairs_of s old new)
    ∙ sym (count_chosen (λ p. q (turned p)) (λ p. keeps p.row) (pairs_of s old new))))

pub turned_counts_change : TurnedCountsChangePlaces
turned_counts_change s old new keeps are = count_turned s old new keeps takes_fewer

in_turned : (s : DesignSpace) (old new : Workload) (keeps : ℕ → Bool) (p : Pair)
    → Contains (chosen keeps s old new) p → Contains (chosen keeps s new old) (turned p)
in_turned s old new keeps p c =
    let here = kept_has (λ q. keeps q.row) (pairs_of s old new) p (among (chosen keeps s old new) p c) in
    let back = Contains-permutation (map turned (pairs_of s old new)) (pairs_of s new old) (turned p)
    (turned_moves s old new)
    (contains_map turned (pairs_of s old new) p (has_contains (pairs_of s old new) p here.0)) in
    has_contains (chosen keeps s new old) (turned p)
    (has_kept (λ q. keeps q.row) (pairs_of s new old) (turned p) (among (pairs_of s new old) (turned p) back) here.1)

pub turned_ratios_are_inverse : TurnedRatiosAreInverse
turned_ratios_are_inverse s old new keeps b w are first last =
    best_is_inverse (chosen keeps s old new) (chosen keeps s new old)
    (chosen_ascend s old new keeps are.study are.old_one) (chosen_ascend s new old keeps are.study are.new_one)
    (in_turned s old new keeps) (in_turned s new old keeps) b w first last

pub itself_is_the_same : ItselfIsTheSame
unfolding pairs_of
itself_is_the_same s p =
    let unsorted = map (pair_at s p p) (row_numbers s) in
    All-permutation (λ (q : Pair). takes_as_many q ≡ true) unsorted (by_ratio unsorted) (by_ratio_moves unsorted)
    (All-from_recursion (λ (q : Pair). takes_as_many q ≡ true) unsorted
    (all_in_range (λ (q : Pair). takes_as_many q ≡ true) (pair_at s p p) 0 (length s.rows) (λ k l m. eq-eqb _ _ refl)))
