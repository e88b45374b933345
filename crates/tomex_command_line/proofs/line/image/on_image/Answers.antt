-- The arguments, one after the other.
use Rattle.std.proofs.Common.{Ok}
use Rattle.tomex_command_line.proofs.Taken.{taken}
use Rattle.tomex_command_line.proofs.line.image.on_image.Goals as goal

pub returns : goal.returns
returns c =
    let one = taken _ (Ok c.command_with_texts.result) _ c.with_argument-command.ensures c.command_with_texts.ensures
    c.word.ensures.rule in
    let two = taken _ _ _ c.with_argument-command-2.ensures one c.number.ensures.rule in
    taken _ _ _ c.with_argument.ensures two c.number-2.ensures.rule
