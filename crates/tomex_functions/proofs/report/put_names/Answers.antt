-- Closed at once: searching by rules first takes long.
use Rattle.std.proofs.Common.{arith}
use Rattle.std.proofs.lemmas.Grind.{common_steps}
use Rattle.tomex_functions.proofs.report.put_names.Goals as goal

pub loop-named-preserved : goal.loop-named-preserved
loop-named-preserved = grind (arith, common_steps)

pub returns-clause-text : goal.returns-clause-text
returns-clause-text = grind (arith, common_steps)
