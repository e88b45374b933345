-- Closed at once: searching by rules first takes long.
use Rattle.std.proofs.Common.{arith}
use Rattle.std.proofs.lemmas.Grind.{common_steps}
use Rattle.tomex_loop_views.proofs.fields.push_more_charges.Goals as goal

pub loop-charge-preserved : goal.loop-charge-preserved
loop-charge-preserved = grind (arith, common_steps)
