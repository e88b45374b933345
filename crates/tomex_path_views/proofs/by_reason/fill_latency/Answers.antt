-- Closed at once: searching by rules first takes long.
use Rattle.std.proofs.Common.{arith}
use Rattle.std.proofs.lemmas.Grind.{common_steps}
use Rattle.tomex_path_views.proofs.by_reason.fill_latency.Goals as goal

pub overflow_mul-latency : goal.overflow_mul-latency
overflow_mul-latency = grind (arith, common_steps)
