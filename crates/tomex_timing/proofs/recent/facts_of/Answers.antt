-- One step's facts more.
use Rattle.std.proofs.Common.{rules, ◌≡◌, slice_index_or, arith}
use Rattle.std.proofs.lemmas.Grind.{common_steps}
use Rattle.tomex_timing.proofs.Turns.{facts_more}
use Rattle.tomex_timing.proofs.recent.facts_of.Goals as goal

pub loop-step-preserved : goal.loop-step-preserved
loop-step-preserved g c =
    let is : slice_index_or c.args.steps.now c.loop-step.step-index c.step-item.result ≡ c.step-item.result =
    search rules in
    rw c.in_ok-push.ensures.items (facts_more c.args.steps.now c.loop-step.facts.items c.loop-step.step-index
    c.step-item.result c.of.result c.loop-step-test.true is c.of.ensures.facts c.of.ensures.range
    c.loop-step.invariant)

pub returns : goal.returns
returns = grind (arith, common_steps)
