-- Closed at once: searching by rules first takes long.
use Rattle.std.proofs.Common.{arith}
use Rattle.std.proofs.lemmas.Grind.{common_steps}
use Rattle.tomex_floor.proofs.floored.is_used_by.Goals as goal

pub loop-step-preserved : goal.loop-step-preserved
loop-step-preserved = grind (arith, common_steps)

pub returns-then-is_of : goal.returns-then-is_of
returns-then-is_of = grind (arith, common_steps)
