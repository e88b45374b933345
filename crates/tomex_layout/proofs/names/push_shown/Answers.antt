-- Closed at once: searching by rules first takes long.
use Rattle.std.proofs.Common.{arith}
use Rattle.std.proofs.lemmas.Grind.{common_steps}
use Rattle.tomex_layout.proofs.names.push_shown.Goals as goal

pub returns-in_default-2 : goal.returns-in_default-2
returns-in_default-2 = grind (arith, common_steps)
