-- Closed at once: searching by rules first takes long.
use Rattle.std.proofs.Common.{arith}
use Rattle.std.proofs.lemmas.Grind.{common_steps}
use Rattle.tomex_snapshots.proofs.takers.push_list.Goals as goal

pub loop-taker-init : goal.loop-taker-init
loop-taker-init = grind (arith, common_steps)

pub loop-taker-preserved : goal.loop-taker-preserved
loop-taker-preserved = grind (arith, common_steps)

pub returns : goal.returns
returns = grind (arith, common_steps)
