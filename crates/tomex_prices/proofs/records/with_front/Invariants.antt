-- The records so far, and the remaining ones.
use Rattle.std.proofs.Common.{◌≡◌, ◌++◌, drop}
use Rattle.std.specs.List.{flat_map}
use Rattle.tomex_prices.specs.PricesCsv.{row_records}
use Rattle.tomex_prices.proofs.records.with_front.Given as goal

abbrev pub invariant-loop-place : goal.invariant-loop-place
invariant-loop-place g l =
    l.made ++ flat_map (row_records l.surveyed) (drop l.place l.row-items)
    ≡ l.fn.text ++ flat_map (row_records l.surveyed) l.row-items
