-- Closed at once: searching by rules first takes long.
use Rattle.std.proofs.Common.{arith}
use Rattle.std.proofs.lemmas.Grind.{common_steps}
use Rattle.tomex_functions.proofs.index.keys_of.Goals as goal

pub loop-function-preserved : goal.loop-function-preserved
loop-function-preserved = grind (arith, common_steps)

pub returns : goal.returns
returns = grind (arith, common_steps)
