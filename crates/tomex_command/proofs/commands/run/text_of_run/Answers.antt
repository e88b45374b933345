-- Closed at once: searching by rules first takes long.
use Rattle.std.proofs.Common.{arith}
use Rattle.tomex_command.proofs.commands.run.text_of_run.Goals as goal

pub returns-clause-text : goal.returns-clause-text
returns-clause-text = grind arith
