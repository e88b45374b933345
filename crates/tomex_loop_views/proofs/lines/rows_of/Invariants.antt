-- The rows so far are those of the first loops.
use Rattle.std.proofs.Common.{◌≡◌, map}
use Rattle.tomex_loop_views.specs.Lines.{lines_to}
use Rattle.tomex_loop_views.specs.Table.{line_of}
use Rattle.tomex_loop_views.proofs.lines.rows_of.Given as goal

abbrev pub invariant-loop-n : goal.invariant-loop-n
invariant-loop-n g l = map line_of l.rows.items ≡ lines_to l.columns l.n
