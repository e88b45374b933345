-- Closed at once: searching by rules first takes long.
use Rattle.std.proofs.Common.{arith}
use Rattle.std.proofs.lemmas.Grind.{common_steps}
use Rattle.tomex_loop_views.proofs.fields.push_dashes.Goals as goal

pub loop-field-preserved : goal.loop-field-preserved
loop-field-preserved = grind (arith, common_steps)
