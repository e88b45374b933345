-- The text of one more tick.
use Rattle.std.proofs.lemmas.Grind.{common_steps}
use Rattle.std.proofs.Common.{arith}
use Rattle.tomex_front_views.specs.Plot.{mark_at}
use Rattle.tomex_front_views.proofs.Ticks.{all_ticks, last_tick, one_tick}
use Rattle.tomex_front_views.proofs.plot.marks.push_marks.Goals as goal

pub loop-k-init : goal.loop-k-init
loop-k-init g c =
    all_ticks c.args.axes.now c.args.mark _ c.span_of-span.ensures c.saturating_sub.ensures
    c.step_of-step.ensures.is c.div_ceil-k.ensures

pub loop-k-preserved : goal.loop-k-preserved
loop-k-preserved g c =
    one_tick (mark_at c.args.axes.now c.args.mark) c.step_of-step.result c.loop-k.k _ _ _ _ c.loop-k-test.true
    c.in_ok-push_mark_at.ensures c.loop-k.invariant

pub returns-in_ok-push_mark_at : goal.returns-in_ok-push_mark_at
returns-in_ok-push_mark_at g c =
    last_tick (mark_at c.args.axes.now c.args.mark) c.step_of-step.result c.loop-k.k _ _ _ _ c.loop-k-test.true
    (omega arith) c.in_ok-push_mark_at.ensures c.loop-k.invariant

pub overflow_mul-k : goal.overflow_mul-k
overflow_mul-k = grind (arith, common_steps)
