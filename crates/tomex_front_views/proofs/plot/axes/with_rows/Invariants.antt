-- The remaining rows.
use Rattle.std.proofs.Common.{◌≡◌, drop}
use Rattle.std.specs.List.{fold}
use Rattle.tomex_front_views.specs.Axes.{with_row}
use Rattle.tomex_front_views.proofs.plot.axes.with_rows.Given as goal

abbrev pub invariant-loop-row : goal.invariant-loop-row
invariant-loop-row l = fold with_row l.axes (drop l.row-index l.rows) ≡ fold with_row l.fn.from l.rows
