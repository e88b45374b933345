-- Closed at once: searching by rules first takes long.
use Rattle.std.proofs.Common.{arith}
use Rattle.std.proofs.lemmas.Grind.{common_steps}
use Rattle.tomex_loop_sums.proofs.visited.values_of.Goals as goal

pub loop-visit-preserved : goal.loop-visit-preserved
loop-visit-preserved = grind (arith, common_steps)

pub returns : goal.returns
returns = grind (arith, common_steps)
