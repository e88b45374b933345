-- Closed at once: searching by rules first takes long.
use Rattle.std.proofs.Common.{arith}
use Rattle.std.proofs.lemmas.Grind.{common_steps}
use Rattle.tomex_loops.proofs.visiting.end_call.Goals as goal

pub loop-under_way-preserved : goal.loop-under_way-preserved
loop-under_way-preserved = grind (arith, common_steps)

pub returns-clause-ends : goal.returns-clause-ends
returns-clause-ends = grind (arith, common_steps)

pub returns-clause-around : goal.returns-clause-around
returns-clause-around = grind (arith, common_steps)
