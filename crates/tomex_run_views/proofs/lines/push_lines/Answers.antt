-- The line of one more step.
use Rattle.std.proofs.Common.{None, refl}
use Rattle.tomex_run_views.proofs.Pictures.{line_more, no_line}
use Rattle.tomex_run_views.proofs.lines.push_lines.Goals as goal

pub loop-index-preserved : goal.loop-index-preserved
loop-index-preserved g c =
    line_more c.args.frame.now c.args.number c.loop-index.index c.args.steps.now c.args.times.now _
    (record { issue = 0; address = None; start = 0; finish = 0; end = 0; station = None }) _ c.loop-index-test.true
    c.requires.pairs c.index-steps-index.is refl c.in_ok-push_line.ensures c.loop-index.invariant

pub returns : goal.returns
returns g c =
    no_line c.args.frame.now _ c.loop-index.index c.args.steps.now c.args.times.now _ _ c.loop-index-test.false
    c.loop-index.invariant
