-- The longest so far, and those to come.
use Rattle.std.proofs.Common.{◌≡◌, max, drop}
use Rattle.tomex_run_views.specs.Chart.{longest_instruction}
use Rattle.tomex_run_views.proofs.pipeline.longest_instruction.Given as goal

abbrev pub invariant-loop-step : goal.invariant-loop-step
invariant-loop-step l =
    max l.letters (longest_instruction (drop l.step-index l.steps)) ≡ longest_instruction l.steps
