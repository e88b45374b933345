-- Closed at once: searching by rules first takes long.
use Rattle.std.proofs.Common.{arith}
use Rattle.std.proofs.lemmas.Grind.{common_steps}
use Rattle.tomex_samples.proofs.choosing.share_of.Goals as goal

pub overflow_cast-result : goal.overflow_cast-result
overflow_cast-result = grind (arith, common_steps)
