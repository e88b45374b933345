use Rattle.std.proofs.Common.{arith}
use Rattle.std.proofs.lemmas.Grind.{common_steps}
use Rattle.tomex_command.proofs.run.text_of_registers.Goals as goal

pub loop-register-preserved : goal.loop-register-preserved
loop-register-preserved g c = grind (arith, common_steps)
