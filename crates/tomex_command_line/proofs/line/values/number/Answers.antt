-- Closed at once: searching by rules first takes long.
use Rattle.std.proofs.Common.{arith}
use Rattle.std.proofs.lemmas.Grind.{common_steps}
use Rattle.tomex_command_line.proofs.line.values.number.Goals as goal

pub returns-clause-rule : goal.returns-clause-rule
returns-clause-rule = grind (arith, common_steps)
