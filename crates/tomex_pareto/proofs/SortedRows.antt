-- Numbered rows that are sorted by cost and number are those rows in the order of a front.
use Rattle.std.proofs.Common.{◌≡◌, ◌≢◌, ◌<◌, ◌≤◌, ◌⊎◌, ◌==◌, arith, List, get_or}
use Rattle.std.specs.List.{AllPairs}
use Rattle.std.specs.List.Sorted.{IsPermutation}
use Rattle.std.proofs.lemmas.Bool.Decides.{nat_tests}
use Rattle.std.proofs.lemmas.List.Sorted.{IsPermutation-sym}
use Rattle.std.proofs.lemmas.Map.Keys.{IsDistinct-IsPermutation}
use Rattle.tomex_pareto.specs.declared.front_row.FrontRow.{FrontRow}
use Rattle.tomex_pareto.specs.Front.{by_cost}
use Rattle.tomex_pareto.specs.Pareto.{AreNumbered, ComesBefore}
use Rattle.tomex_pareto.proofs.Pareto.{apart, has_moved, ordered_moves, pairs_rise, rises_ordered, rises_pairs}
use Rattle.tomex_pareto.proofs.Pareto.{same_rows}

-- a may stand before b: by cost, then number
abbrev pub IsNoLater : FrontRow → FrontRow → Type 0
IsNoLater a b = (a.cost < b.cost) ⊎ ((a.cost ≡ b.cost) × (a.row ≤ b.row))

before : (a b : FrontRow) → IsNoLater a b → a.row ≢ b.row → ComesBefore a b
before a b up other = grind (arith, nat_tests)

pub sorted_is : (rows sorted : List FrontRow) → AreNumbered rows → IsPermutation rows sorted
    → AllPairs IsNoLater sorted → sorted ≡ by_cost rows
sorted_is rows sorted numbered moved order =
    let back = IsPermutation-sym rows sorted moved in
    let ordered = ordered_moves rows in
    let far = rises_pairs (λ a b. a.row ≢ b.row) sorted (apart sorted (IsDistinct-IsPermutation
    (λ a b. a.row == b.row) (λ a b. grind (arith, nat_tests)) rows sorted moved numbered)) in
    same_rows sorted (by_cost rows)
    (pairs_rise ComesBefore sorted (λ j k d l m.
    before (get_or sorted j d) (get_or sorted k d) (order j k d l m) (far j k d l m)))
    (rises_ordered rows (apart rows numbered))
    (λ r h. has_moved rows (by_cost rows) r ordered (has_moved sorted rows r back h))
    (λ r h. has_moved rows sorted r moved
    (has_moved (by_cost rows) rows r (IsPermutation-sym rows (by_cost rows) ordered) h))
