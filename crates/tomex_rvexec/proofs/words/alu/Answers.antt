use Rattle.std.proofs.Common.{arith}
use Rattle.std.proofs.lemmas.Grind.{common_steps}
use Rattle.tomex_rvexec.proofs.words.alu.Goals as goal

pub returns-in-Slt : goal.returns-in-Slt
returns-in-Slt c = grind (arith, common_steps)
