-- Closed at once: searching by rules first takes long.
use Rattle.std.proofs.Common.{arith}
use Rattle.std.proofs.lemmas.Grind.{common_steps}
use Rattle.tomex_animate.proofs.stretch.without_later.Goals as goal

pub loop-count-preserved : goal.loop-count-preserved
loop-count-preserved = grind (arith, common_steps)
