-- The spans so far, and those to come.
use Rattle.std.proofs.Common.{◌≡◌, ◌++◌, drop, map}
use Rattle.tomex_weights.specs.Spans.{span_of}
use Rattle.tomex_weights.proofs.columns.column.Given as goal

abbrev pub invariant-loop-row : goal.invariant-loop-row
invariant-loop-row g l =
    l.spans.items ++ map (span_of l.surveyed l.place) (drop l.row-index l.row-items)
    ≡ map (span_of l.surveyed l.place) l.row-items
