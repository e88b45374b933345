use Rattle.std.proofs.Common.{arith}
use Rattle.std.proofs.lemmas.Grind.{common_steps}
use Rattle.tomex_rvexec.proofs.memory.Memory.set_word.Goals as goal

pub returns : goal.returns
returns g c = grind (arith, common_steps)

pub invariant_of-self : goal.invariant_of-self
invariant_of-self = grind (arith, common_steps)
