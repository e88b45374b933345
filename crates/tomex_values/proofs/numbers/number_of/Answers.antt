-- Closed at once: searching by rules first takes long.
use Rattle.std.proofs.Common.{arith}
use Rattle.std.proofs.lemmas.Grind.{common_steps}
use Rattle.tomex_values.proofs.numbers.number_of.Goals as goal

pub overflow_cast-number : goal.overflow_cast-number
overflow_cast-number = grind (arith, common_steps)
