-- Closed at once: searching by rules first takes long.
use Rattle.std.proofs.Common.{arith}
use Rattle.std.proofs.lemmas.Grind.{common_steps}
use Rattle.tomex_loop_views.proofs.paths.Paths.none.Goals as goal

pub returns-clause-count : goal.returns-clause-count
returns-clause-count = grind (arith, common_steps)
