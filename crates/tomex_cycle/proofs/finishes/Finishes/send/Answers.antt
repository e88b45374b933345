use Rattle.tomex_cycle.proofs.Words.{arith, common_steps}
use Rattle.tomex_cycle.proofs.finishes.Finishes.send.Goals as goal

pub returns-clause-unsent : goal.returns-clause-unsent
returns-clause-unsent c = grind (arith, common_steps)
