-- Closed at once: searching by rules first takes long.
use Rattle.std.proofs.Common.{arith}
use Rattle.std.proofs.lemmas.Grind.{common_steps}
use Rattle.tomex_compare.proofs.fronts.marks_of.Goals as goal

pub loop-row-preserved : goal.loop-row-preserved
loop-row-preserved = grind (arith, common_steps)

pub loop-row-init : goal.loop-row-init
loop-row-init = grind (arith, common_steps)

pub returns : goal.returns
returns = grind (arith, common_steps)
