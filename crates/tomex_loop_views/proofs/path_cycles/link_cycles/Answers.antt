-- Closed at once: searching by rules first takes long.
use Rattle.std.proofs.Common.{arith}
use Rattle.std.proofs.lemmas.Grind.{common_steps}
use Rattle.tomex_loop_views.proofs.path_cycles.link_cycles.Goals as goal

pub loop-link-preserved : goal.loop-link-preserved
loop-link-preserved = grind (arith, common_steps)

pub returns : goal.returns
returns = grind (arith, common_steps)
