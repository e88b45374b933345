use Rattle.tomex_cycle.proofs.Words.{ap}
use Rattle.tomex_cycle.specs.Seen.{seen}
use Rattle.tomex_cycle.proofs.Outer.{now_seen}
use Rattle.tomex_cycle.proofs.machine.Machine.keeps_step.Goals as goal

pub returns : goal.returns
returns g c = now_seen (ap seen c.self.view_is) c.self.invariant.0
