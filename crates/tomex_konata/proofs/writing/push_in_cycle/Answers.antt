-- Closed at once: searching by rules first takes long.
use Rattle.std.proofs.Common.{arith}
use Rattle.std.proofs.lemmas.Grind.{common_steps}
use Rattle.tomex_konata.proofs.writing.push_in_cycle.Goals as goal

pub returns-clause-text : goal.returns-clause-text
returns-clause-text = grind (arith, common_steps)
