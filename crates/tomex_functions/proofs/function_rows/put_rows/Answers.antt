-- Closed at once: searching by rules first takes long.
use Rattle.std.proofs.Common.{arith}
use Rattle.std.proofs.lemmas.Grind.{common_steps}
use Rattle.tomex_functions.proofs.function_rows.put_rows.Goals as goal

pub returns-clause-text : goal.returns-clause-text
returns-clause-text = grind (arith, common_steps)

pub loop-row-preserved : goal.loop-row-preserved
loop-row-preserved = grind (arith, common_steps)
