use Rattle.std.proofs.Common.{arith}
use Rattle.std.proofs.lemmas.Grind.{common_steps}
use Rattle.tomex_rvexec.proofs.operation.next_pc.Goals as goal

pub returns-in-Jalr : goal.returns-in-Jalr
returns-in-Jalr c = grind (arith, common_steps)
