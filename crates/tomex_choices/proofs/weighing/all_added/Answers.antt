-- Closed at once: searching by rules first takes long.
use Rattle.std.proofs.Common.{arith}
use Rattle.std.proofs.lemmas.Grind.{common_steps}
use Rattle.tomex_choices.proofs.weighing.all_added.Goals as goal

pub returns : goal.returns
returns = grind (arith, common_steps)

pub loop-config-preserved : goal.loop-config-preserved
loop-config-preserved = grind (arith, common_steps)
