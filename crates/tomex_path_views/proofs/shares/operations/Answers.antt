-- Closed at once: searching by rules first takes long.
use Rattle.std.proofs.Common.{arith}
use Rattle.std.proofs.lemmas.Grind.{common_steps}
use Rattle.tomex_path_views.proofs.shares.operations.Goals as goal

pub overflow_add-count : goal.overflow_add-count
overflow_add-count = grind (arith, common_steps)
