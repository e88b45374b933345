-- The text so far, and the lines of the steps to come.
use Rattle.std.proofs.Common.{◌≡◌, ◌+◌, ◌++◌, drop}
use Rattle.std.specs.Prelude.{string_bytes}
use Rattle.tomex_run_views.specs.Chart.{lines_of}
use Rattle.tomex_run_views.proofs.lines.push_lines.Given as goal

abbrev pub invariant-loop-index : goal.invariant-loop-index
invariant-loop-index g l =
    string_bytes l.text ++ lines_of l.frame (l.number + l.index) (drop l.index l.steps) (drop l.index l.times)
    ≡ string_bytes l.fn.text ++ lines_of l.frame l.number l.steps l.times
