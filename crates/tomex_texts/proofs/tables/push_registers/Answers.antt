-- Closed at once: searching by rules first takes long.
use Rattle.std.proofs.Common.{arith}
use Rattle.std.proofs.lemmas.Grind.{common_steps}
use Rattle.tomex_texts.proofs.tables.push_registers.Goals as goal

pub loop-register-preserved : goal.loop-register-preserved
loop-register-preserved = grind (arith, common_steps)
