-- The arguments, one after the other.
use Rattle.tomex_command_line.proofs.Taken.{taken}
use Rattle.tomex_command_line.proofs.line.one_run.on_one_run.Goals as goal

pub returns : goal.returns
returns c =
    let two = taken _ _ _ c.with_argument-command.ensures c.on_study-command.ensures c.config_argument.ensures.rule in
    taken _ _ _ c.with_argument.ensures two c.word.ensures.rule
