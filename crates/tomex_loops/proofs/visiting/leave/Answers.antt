-- Closed at once: searching by rules first takes long.
use Rattle.std.proofs.Common.{arith}
use Rattle.std.proofs.lemmas.Grind.{common_steps}
use Rattle.tomex_loops.proofs.visiting.leave.Goals as goal

pub returns-then-is_in_loop-clause-here : goal.returns-then-is_in_loop-clause-here
returns-then-is_in_loop-clause-here = grind (arith, common_steps)

pub returns-clause-ends : goal.returns-clause-ends
returns-clause-ends = grind (arith, common_steps)

pub returns-then-is_in_loop-clause-ends : goal.returns-then-is_in_loop-clause-ends
returns-then-is_in_loop-clause-ends = grind (arith, common_steps)

pub loop-under_way-preserved : goal.loop-under_way-preserved
loop-under_way-preserved = grind (arith, common_steps)

pub returns-clause-here : goal.returns-clause-here
returns-clause-here = grind (arith, common_steps)
