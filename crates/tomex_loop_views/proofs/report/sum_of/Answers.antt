-- Closed at once: searching by rules first takes long.
use Rattle.std.proofs.Common.{arith}
use Rattle.std.proofs.lemmas.Grind.{common_steps}
use Rattle.tomex_loop_views.proofs.report.sum_of.Goals as goal

pub overflow_add-all : goal.overflow_add-all
overflow_add-all = grind (arith, common_steps)
