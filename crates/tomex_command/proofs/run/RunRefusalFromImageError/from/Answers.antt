use Rattle.std.proofs.Common.{rules}
use Rattle.tomex_command.proofs.run.RunRefusalFromImageError.from.Goals as goal

pub returns-in-Memory : goal.returns-in-Memory
returns-in-Memory c = search rules fits 100
