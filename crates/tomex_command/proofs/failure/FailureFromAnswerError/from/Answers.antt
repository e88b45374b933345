use Rattle.std.proofs.Common.{rules}
use Rattle.tomex_command.proofs.failure.FailureFromAnswerError.from.Goals as goal

pub returns-in-Sweep-Worker : goal.returns-in-Sweep-Worker
returns-in-Sweep-Worker c = search rules fits 100
