-- Closed at once: searching by rules first takes long.
use Rattle.std.proofs.Common.{arith}
use Rattle.std.proofs.lemmas.Grind.{common_steps}
use Rattle.tomex_frames.proofs.stations.push_fields.Goals as goal

pub loop-column-preserved : goal.loop-column-preserved
loop-column-preserved = grind (arith, common_steps)
