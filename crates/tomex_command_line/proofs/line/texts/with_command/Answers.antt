-- A plain command is offered as it is.
use Rattle.std.proofs.lemmas.Result.{IfOk-weaker}
use Rattle.tomex_command_line.proofs.Plain.{no_globals}
use Rattle.tomex_command_line.proofs.line.texts.with_command.Goals as goal

pub returns : goal.returns
returns c =
    let plain = rw c.in_ok-command.was at c.requires in
    rw (c.in_ok-program.was, c.in_ok-command.was)
    (IfOk-weaker c.subcommand.result _ _ (λ made added. added.shape (no_globals _ plain)) c.subcommand.ensures)
