-- Closed at once: searching by rules first takes long.
use Rattle.std.proofs.Common.{arith}
use Rattle.std.proofs.lemmas.Grind.{common_steps}
use Rattle.tomex_loops.proofs.finding.copy_places.Goals as goal

pub loop-stop-preserved : goal.loop-stop-preserved
loop-stop-preserved = grind (arith, common_steps)

pub returns : goal.returns
returns = grind (arith, common_steps)
