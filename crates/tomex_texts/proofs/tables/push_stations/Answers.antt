-- Closed at once: searching by rules first takes long.
use Rattle.std.proofs.Common.{arith}
use Rattle.std.proofs.lemmas.Grind.{common_steps}
use Rattle.tomex_texts.proofs.tables.push_stations.Goals as goal

pub loop-place-preserved : goal.loop-place-preserved
loop-place-preserved = grind (arith, common_steps)
