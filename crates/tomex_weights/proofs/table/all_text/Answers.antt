-- Closed at once: searching by rules first takes long.
use Rattle.std.proofs.Common.{arith}
use Rattle.std.proofs.lemmas.Grind.{common_steps}
use Rattle.tomex_weights.proofs.table.all_text.Goals as goal

pub returns-then-is_on : goal.returns-then-is_on
returns-then-is_on = grind (arith, common_steps)

pub returns-else-is_on : goal.returns-else-is_on
returns-else-is_on = grind (arith, common_steps)
