-- The points of the rows so far are marked.
use Rattle.std.proofs.Common.{take}
use Rattle.tomex_front_views.specs.Dots.{IsTable}
use Rattle.tomex_front_views.proofs.plot.dots.table_of.Given as goal

abbrev pub invariant-loop-row : goal.invariant-loop-row
invariant-loop-row g l = IsTable l.axes (take l.row-index l.rows) l.marks.items
