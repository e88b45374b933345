-- Closed at once: searching by rules first takes long.
use Rattle.std.proofs.Common.{arith}
use Rattle.std.proofs.lemmas.Grind.{common_steps}
use Rattle.tomex_loop_views.proofs.report.keys_of.Goals as goal

pub values_of-requires : goal.values_of-requires
values_of-requires = grind (arith, common_steps)
