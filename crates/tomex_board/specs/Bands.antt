-- Price bands: each has a floor, the greatest cost that a row published in it may have.
use Rattle.std.specs.Prelude.{ℕ, zero, suc, ◌*◌, ◌/◌, ◌<◌, ◌≤◌, nat_le, List, []}
use Rattle.std.specs.Prelude.{◌∷◌, if◌then◌else◌, map, length, slice_index}
use Rattle.std.specs.List.{range_with_len}
use Rattle.std.specs.Ordering.{nat_cmp}
use Rattle.std.specs.BTreeSet.{insert_key}

-- costs in ascending order, with more of them at their places, each once
abbrev pub with_costs : List ℕ → List ℕ → List ℕ
with_costs rising [] = rising
with_costs rising (c ∷ costs) = with_costs (insert_key nat_cmp rising c) costs

-- the distinct costs, in ascending order
abbrev pub distinct_costs : List ℕ → List ℕ
distinct_costs costs = with_costs [] costs

-- all of these costs if there are at most 64, else 64 of them, evenly spread
abbrev pub floors_among : List ℕ → List ℕ
floors_among rising =
    if nat_le (length rising) 64 then rising
    else map (λ k. slice_index rising (k * length rising / 64)) (range_with_len 0 64)

-- the floors of the bands, in the order of the bands
unfoldable pub floors_of : List ℕ → List ℕ
floors_of costs = floors_among (distinct_costs costs)

-- the band of a cost: the first, and so the least, floor that is at least the cost
abbrev pub IsBandOf : List ℕ → ℕ → ℕ → Type 0
IsBandOf floors cost k =
    (k < length floors) × (cost ≤ slice_index floors k) × ((j : ℕ) → j < k → slice_index floors j < cost)

-- the bands below m that may judge a row of this cost, the last one first: their floor is at most the cost
abbrev pub judges_below : ℕ → List ℕ → ℕ → List ℕ
judges_below zero floors cost = []
judges_below (suc k) floors cost =
    if nat_le (slice_index floors k) cost then k ∷ judges_below k floors cost else judges_below k floors cost
