use Rattle.std.proofs.Common.{rules}
use Rattle.tomex_command.proofs.run.RunRefusalFromRunError.from.Goals as goal

pub returns-in-TooLong : goal.returns-in-TooLong
returns-in-TooLong c = search rules fits 100
