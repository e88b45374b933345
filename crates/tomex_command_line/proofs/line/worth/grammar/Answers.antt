-- A command with its last arguments.
use Rattle.std.proofs.Common.{ap}
use Rattle.std.proofs.lemmas.Result.{IfOk-weaker}
use Rattle.clap.specs.Words.{App}
use Rattle.tomex_command_line.proofs.Taken.{taken}
use Rattle.tomex_command_line.proofs.line.worth.grammar.Goals as goal

pub returns : goal.returns
returns c =
    let config = taken _ _ _ c.with_argument-command.ensures c.on_rows-command.ensures
    c.config_argument.ensures.rule in
    let last = taken _ _ _ c.with_argument.ensures config c.table_flag.ensures.rule in
    IfOk-weaker c.with_argument.result _ _ (λ made is. ap (λ (a : App). a.top) is) last
