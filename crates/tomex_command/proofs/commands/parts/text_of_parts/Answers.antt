-- Closed at once: searching by rules first takes long.
use Rattle.std.proofs.Common.{arith}
use Rattle.tomex_command.proofs.commands.parts.text_of_parts.Goals as goal

pub returns-in_err-found-clause-failure : goal.returns-in_err-found-clause-failure
returns-in_err-found-clause-failure = grind arith
