use Rattle.tomex_cycle.proofs.Words.{ap}
use Rattle.tomex_cycle.specs.Seen.{seen}
use Rattle.tomex_cycle.proofs.Outer.{tables_seen}
use Rattle.tomex_cycle.proofs.machine.Machine.tables.Goals as goal

pub returns-clause-ends : goal.returns-clause-ends
returns-clause-ends g c = tables_seen (ap seen c.self.view_is) c.tables.ensures.shown c.self.invariant.0
