-- One more step.
use Rattle.std.proofs.Common.{sym}
use Rattle.tomex_timing.proofs.Histories.{total_more}
use Rattle.tomex_timing.proofs.evaluate.total.Goals as goal

pub loop-at-preserved : goal.loop-at-preserved
loop-at-preserved c = rw (c.max-greatest.ensures, c.loop-at.invariant)
    (sym (total_more c.args.times.now c.loop-at.at-index _ c.loop-at-test.true))
