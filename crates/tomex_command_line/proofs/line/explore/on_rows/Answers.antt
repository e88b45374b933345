-- The command with the number of workers.
use Rattle.tomex_command_line.proofs.Taken.{taken}
use Rattle.tomex_command_line.proofs.line.explore.on_rows.Goals as goal

pub returns : goal.returns
returns c = taken _ _ _ c.with_argument.ensures c.on_study-command.ensures c.number.ensures.rule
