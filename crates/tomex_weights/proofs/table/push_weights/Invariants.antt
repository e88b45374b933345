-- The columns so far, and the remaining ones.
use Rattle.std.proofs.Common.{◌≡◌, ◌++◌, drop, map}
use Rattle.tomex_weights.specs.WeightsTable.{weight_column}
use Rattle.tomex_weights.proofs.table.push_weights.Given as goal

abbrev pub invariant-loop-spans : goal.invariant-loop-spans
invariant-loop-spans g l =
    l.columns.items ++ map (λ p. weight_column l.surveyed l.rows p.place) (drop l.spans-index l.all)
    ≡ l.fn.columns.items ++ map (λ p. weight_column l.surveyed l.rows p.place) l.all
