-- Closed at once: searching by rules first takes long.
use Rattle.std.proofs.Common.{arith}
use Rattle.std.proofs.lemmas.Grind.{common_steps}
use Rattle.tomex_weights.proofs.table.push_weights.Goals as goal

pub loop-spans-preserved : goal.loop-spans-preserved
loop-spans-preserved = grind (arith, common_steps)
