-- Closed at once: searching by rules first takes long.
use Rattle.std.proofs.Common.{arith}
use Rattle.tomex_command.proofs.commands.image.image_of.Goals as goal

pub returns-in_err-load-clause-failure : goal.returns-in_err-load-clause-failure
returns-in_err-load-clause-failure = grind arith
