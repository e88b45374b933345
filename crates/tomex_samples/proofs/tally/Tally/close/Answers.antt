-- Closed at once: searching by rules first takes long.
use Rattle.std.proofs.Common.{arith}
use Rattle.std.proofs.lemmas.Grind.{common_steps}
use Rattle.tomex_samples.proofs.tally.Tally.close.Goals as goal

pub returns-clause-row : goal.returns-clause-row
returns-clause-row = grind (arith, common_steps)
