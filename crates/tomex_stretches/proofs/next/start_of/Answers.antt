-- Closed at once: searching by rules first takes long.
use Rattle.std.proofs.Common.{arith}
use Rattle.std.proofs.lemmas.Grind.{common_steps}
use Rattle.tomex_stretches.proofs.next.start_of.Goals as goal

pub returns-clause-start : goal.returns-clause-start
returns-clause-start = grind (arith, common_steps)
