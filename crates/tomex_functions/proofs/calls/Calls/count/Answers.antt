-- Closed at once: searching by rules first takes long.
use Rattle.std.proofs.Common.{arith}
use Rattle.std.proofs.lemmas.Grind.{common_steps}
use Rattle.tomex_functions.proofs.calls.Calls.count.Goals as goal

pub returns-clause-by_key : goal.returns-clause-by_key
returns-clause-by_key = grind (arith, common_steps)
