-- Closed at once: searching by rules first takes long.
use Rattle.std.proofs.Common.{arith}
use Rattle.std.proofs.lemmas.Grind.{common_steps}
use Rattle.tomex_choices.proofs.useful.useful.Goals as goal

pub loop-x-preserved : goal.loop-x-preserved
loop-x-preserved = grind (arith, common_steps)

pub returns : goal.returns
returns = grind (arith, common_steps)
