use Rattle.tomex_cycle.proofs.Words.{rules}
use Rattle.tomex_cycle.proofs.machine.Machine.worked.Goals as goal

pub returns : goal.returns
returns g c = search rules fits 100
