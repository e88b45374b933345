use Rattle.std.proofs.Common.{arith}
use Rattle.std.proofs.lemmas.Grind.{common_steps}
use Rattle.tomex_rvexec.proofs.operation.store.Goals as goal

pub returns-in-Sw-clause-stored : goal.returns-in-Sw-clause-stored
returns-in-Sw-clause-stored g c = grind (arith, common_steps)
