-- Closed at once: searching by rules first takes long.
use Rattle.std.proofs.Common.{arith}
use Rattle.std.proofs.lemmas.Grind.{common_steps}
use Rattle.tomex_survey.proofs.totals.join_parts.Goals as goal

pub returns : goal.returns
returns = grind (arith, common_steps)

pub loop-part-preserved : goal.loop-part-preserved
loop-part-preserved = grind (arith, common_steps)
