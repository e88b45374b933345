-- Closed at once: searching by rules first takes long.
use Rattle.std.proofs.Common.{arith}
use Rattle.std.proofs.lemmas.Grind.{common_steps}
use Rattle.tomex_loop_sums.proofs.spent.ones.Goals as goal

pub loop-preserved : goal.loop-preserved
loop-preserved = grind (arith, common_steps)

pub returns : goal.returns
returns = grind (arith, common_steps)
