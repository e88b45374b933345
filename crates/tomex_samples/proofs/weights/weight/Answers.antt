-- Closed at once: searching by rules first takes long.
use Rattle.std.proofs.Common.{arith}
use Rattle.std.proofs.lemmas.Grind.{common_steps}
use Rattle.tomex_samples.proofs.weights.weight.Goals as goal

pub overflow_cast-rounded : goal.overflow_cast-rounded
overflow_cast-rounded = grind (arith, common_steps)

pub overflow_add-rounded : goal.overflow_add-rounded
overflow_add-rounded = grind (arith, common_steps)
