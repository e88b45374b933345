-- One more register.
use Rattle.tomex_snapshots.specs.Entries.{history_of}
use Rattle.tomex_frames.specs.Stations.{register_at}
use Rattle.tomex_snapshots.proofs.Lists.{number_more}
use Rattle.tomex_frames.proofs.registers.push_some.Goals as goal

pub loop-register-preserved : goal.loop-register-preserved
loop-register-preserved g c =
    number_more (register_at c.args.view.now.cycle (history_of c.args.view.now.entries.now)) c.loop-register.register
    c.args.to _ _ _ c.loop-register-test.true c.in_ok-push_register_at.ensures c.loop-register.invariant
