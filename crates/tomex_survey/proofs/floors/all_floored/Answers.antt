-- Closed at once: searching by rules first takes long.
use Rattle.std.proofs.Common.{arith}
use Rattle.std.proofs.lemmas.Grind.{common_steps}
use Rattle.tomex_survey.proofs.floors.all_floored.Goals as goal

pub returns : goal.returns
returns = grind (arith, common_steps)

pub loop-program-preserved : goal.loop-program-preserved
loop-program-preserved = grind (arith, common_steps)
