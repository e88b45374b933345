-- The rows so far, and the remaining ones.
use Rattle.std.proofs.Common.{◌≡◌, ◌++◌, drop, map, All}
use Rattle.tomex_pareto.specs.Spans.{HasRoom}
use Rattle.tomex_weights.specs.Spans.{by_weight}
use Rattle.tomex_weights.proofs.line_rows.lines_of.Given as goal

abbrev pub invariant-loop-row : goal.invariant-loop-row
invariant-loop-row g l = record {
  rows : l.lines.items ++ map (by_weight l.surveyed l.place) (drop l.row-index l.rows)
      ≡ map (by_weight l.surveyed l.place) l.rows;
  room : All HasRoom l.lines.items;
}
