-- Closed at once: searching by rules first takes long.
use Rattle.std.proofs.Common.{arith}
use Rattle.std.proofs.lemmas.Grind.{common_steps}
use Rattle.tomex_timing.proofs.next.end_after.Goals as goal

pub returns-then-is_some : goal.returns-then-is_some
returns-then-is_some = grind (arith, common_steps)

pub returns-else-is_some : goal.returns-else-is_some
returns-else-is_some = grind (arith, common_steps)
