-- Closed at once: searching by rules first takes long.
use Rattle.std.proofs.Common.{arith}
use Rattle.std.proofs.lemmas.Grind.{common_steps}
use Rattle.tomex_snapshots.proofs.takers.push_all_operands.Goals as goal

pub returns : goal.returns
returns = grind (arith, common_steps)

pub loop-station-preserved : goal.loop-station-preserved
loop-station-preserved = grind (arith, common_steps)
