-- One more link.
use Rattle.std.proofs.Common.{◌+◌, arith}
use Rattle.tomex_animate.specs.Machine.{index_link}
use Rattle.tomex_snapshots.proofs.Lists.{number_more}
use Rattle.tomex_animate.proofs.machine.push_index_links.Goals as goal

pub loop-cycle-preserved : goal.loop-cycle-preserved
loop-cycle-preserved g c =
    number_more index_link c.loop-cycle.cycle (c.args.page.to + 1) _ _ _ (omega (arith, c.loop-cycle-test.true))
    c.in_ok-push_index_link.ensures c.loop-cycle.invariant
