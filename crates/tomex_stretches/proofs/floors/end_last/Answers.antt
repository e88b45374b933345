-- Closed at once: searching by rules first takes long.
use Rattle.std.proofs.Common.{arith}
use Rattle.std.proofs.lemmas.Grind.{common_steps}
use Rattle.tomex_stretches.proofs.floors.end_last.Goals as goal

pub returns-in_default : goal.returns-in_default
returns-in_default = grind (arith, common_steps)
