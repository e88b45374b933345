-- The text so far, and the signs of the cycles to come.
use Rattle.std.proofs.Common.{◌≡◌, ◌++◌}
use Rattle.std.specs.Prelude.{string_bytes}
use Rattle.tomex_run_views.specs.Chart.{chart}
use Rattle.tomex_run_views.proofs.lines.push_chart.Given as goal

abbrev pub invariant-loop-cycle : goal.invariant-loop-cycle
invariant-loop-cycle g l = string_bytes l.text ++ chart l.at l.cycle ≡ string_bytes l.fn.text ++ chart l.at l.from
