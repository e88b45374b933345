use Rattle.std.proofs.Common.{arith}
use Rattle.std.proofs.lemmas.Grind.{common_steps}
use Rattle.tomex_texts.proofs.end_texts.register_texts.Goals as goal

pub loop-register-preserved : goal.loop-register-preserved
loop-register-preserved c = grind (arith, common_steps)
