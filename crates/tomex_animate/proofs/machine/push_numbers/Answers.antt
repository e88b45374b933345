-- Closed at once: searching by rules first takes long.
use Rattle.std.proofs.Common.{arith}
use Rattle.std.proofs.lemmas.Grind.{common_steps}
use Rattle.tomex_animate.proofs.machine.push_numbers.Goals as goal

pub loop-value-preserved : goal.loop-value-preserved
loop-value-preserved = grind (arith, common_steps)
