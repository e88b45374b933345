-- Closed at once: searching by rules first takes long.
use Rattle.std.proofs.Common.{arith}
use Rattle.std.proofs.lemmas.Grind.{common_steps}
use Rattle.tomex_loops.proofs.coming.move_to.Goals as goal

pub returns-then-is_elsewhere : goal.returns-then-is_elsewhere
returns-then-is_elsewhere = grind (arith, common_steps)

pub returns : goal.returns
returns = grind (arith, common_steps)

pub returns-then-eq : goal.returns-then-eq
returns-then-eq = grind (arith, common_steps)
