-- Closed at once: searching by rules first takes long.
use Rattle.std.proofs.Common.{arith}
use Rattle.std.proofs.lemmas.Grind.{common_steps}
use Rattle.tomex_konata.proofs.lines.push_wakes.Goals as goal

pub returns : goal.returns
returns = grind (arith, common_steps)
