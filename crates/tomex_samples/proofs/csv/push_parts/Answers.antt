-- Closed at once: searching by rules first takes long.
use Rattle.std.proofs.Common.{arith}
use Rattle.std.proofs.lemmas.Grind.{common_steps}
use Rattle.tomex_samples.proofs.csv.push_parts.Goals as goal

pub loop-part-preserved : goal.loop-part-preserved
loop-part-preserved = grind (arith, common_steps)
