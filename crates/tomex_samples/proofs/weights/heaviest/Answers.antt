-- Closed at once: searching by rules first takes long.
use Rattle.std.proofs.Common.{arith}
use Rattle.std.proofs.lemmas.Grind.{common_steps}
use Rattle.tomex_samples.proofs.weights.heaviest.Goals as goal

pub loop-share-preserved : goal.loop-share-preserved
loop-share-preserved = grind (arith, common_steps)
