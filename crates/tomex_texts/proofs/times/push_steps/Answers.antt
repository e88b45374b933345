-- The record of one more step.
use Rattle.std.proofs.Common.{None, refl, arith}
use Rattle.std.proofs.lemmas.Grind.{common_steps}
use Rattle.tomex_texts.proofs.Loops.{record_more}
use Rattle.tomex_texts.proofs.times.push_steps.Goals as goal

pub loop-index-preserved : goal.loop-index-preserved
loop-index-preserved g c = record {
  kept = c.push_step.ensures.kept;
  text = record_more c.loop-index.index c.args.steps.now c.args.times.now _
      (record { issue = 0; address = None; start = 0; finish = 0; end = 0; station = None }) _
      c.loop-index-test.true c.requires.pairs c.index-steps-index.is refl c.in_ok-push_step.ensures.text
      refl c.loop-index.invariant.text;
}

pub returns : goal.returns
returns = grind (arith, common_steps)
