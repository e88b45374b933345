-- Closed at once: searching by rules first takes long.
use Rattle.std.proofs.Common.{arith}
use Rattle.std.proofs.lemmas.Grind.{common_steps}
use Rattle.tomex_find.proofs.row_name.row_with.Goals as goal

pub returns-in-empty-clause-refused : goal.returns-in-empty-clause-refused
returns-in-empty-clause-refused = grind (arith, common_steps)

pub returns-in-len1-clause-row : goal.returns-in-len1-clause-row
returns-in-len1-clause-row = grind (arith, common_steps)
