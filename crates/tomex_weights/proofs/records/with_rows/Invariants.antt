-- The records so far, and the remaining ones.
use Rattle.std.proofs.Common.{◌≡◌, ◌++◌, drop}
use Rattle.std.specs.List.{flat_map}
use Rattle.tomex_weights.specs.WeightsCsv.{row_records}
use Rattle.tomex_weights.proofs.records.with_rows.Given as goal

abbrev pub invariant-loop-row : goal.invariant-loop-row
invariant-loop-row g l =
    l.made ++ flat_map (row_records l.surveyed) (drop l.row-index l.rows)
    ≡ l.fn.text ++ flat_map (row_records l.surveyed) l.rows
