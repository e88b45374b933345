use Rattle.tomex_cycle.proofs.Words.{ap}
use Rattle.tomex_cycle.specs.Seen.{seen}
use Rattle.tomex_cycle.proofs.Outer.{now_seen}
use Rattle.tomex_cycle.proofs.machine.Machine.cycle.Goals as goal

pub returns-clause-ends : goal.returns-clause-ends
returns-clause-ends g c = now_seen (ap seen c.self.view_is) c.self.invariant.0
