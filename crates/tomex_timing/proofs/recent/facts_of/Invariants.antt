-- The facts of the steps so far.
use Rattle.std.proofs.Common.{take}
use Rattle.tomex_timing.specs.Recent.{AreFacts}
use Rattle.tomex_timing.proofs.recent.facts_of.Given as goal

abbrev pub invariant-loop-step : goal.invariant-loop-step
invariant-loop-step g l = AreFacts (take l.step-index l.steps) l.facts.items
