-- The records so far, and the remaining ones.
use Rattle.std.proofs.Common.{◌≡◌, ◌++◌, drop}
use Rattle.std.specs.List.{flat_map}
use Rattle.tomex_weights.specs.WeightsCsv.{row_records, span_record}
use Rattle.tomex_weights.proofs.records.with_row.Given as goal

abbrev pub invariant-loop-spans : goal.invariant-loop-spans
invariant-loop-spans g l =
    l.made ++ flat_map (λ p. span_record l.surveyed l.row p.place) (drop l.spans-index l.all)
    ≡ l.fn.text ++ row_records l.surveyed l.row
