-- Closed at once: searching by rules first takes long.
use Rattle.std.proofs.Common.{arith}
use Rattle.std.proofs.lemmas.Grind.{common_steps}
use Rattle.tomex_cut.proofs.words.Words.can_place.Goals as goal

pub returns-else-hook-place : goal.returns-else-hook-place
returns-else-hook-place = grind (arith, common_steps)

pub returns-then-hook-place : goal.returns-then-hook-place
returns-then-hook-place = grind (arith, common_steps)
