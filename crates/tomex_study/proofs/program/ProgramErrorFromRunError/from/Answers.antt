use Rattle.std.proofs.Common.{rules}
use Rattle.tomex_study.proofs.program.ProgramErrorFromRunError.from.Goals as goal

pub returns-in-TooLong : goal.returns-in-TooLong
returns-in-TooLong c = search rules fits 100
