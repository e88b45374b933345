-- Closed at once: searching by rules first takes long.
use Rattle.std.proofs.Common.{arith}
use Rattle.std.proofs.lemmas.Grind.{common_steps}
use Rattle.tomex_repeats.proofs.numbers.find.Goals as goal

pub returns-then-are_same : goal.returns-then-are_same
returns-then-are_same = grind (arith, common_steps)
