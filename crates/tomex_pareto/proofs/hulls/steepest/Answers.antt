-- Closed at once: searching by rules first takes long.
use Rattle.std.proofs.Common.{arith}
use Rattle.std.proofs.lemmas.Grind.{common_steps}
use Rattle.tomex_pareto.proofs.hulls.steepest.Goals as goal

pub loop-other-preserved : goal.loop-other-preserved
loop-other-preserved = grind (arith, common_steps)
