-- A command with its last argument.
use Rattle.std.proofs.Common.{ap}
use Rattle.std.proofs.lemmas.Result.{IfOk-weaker}
use Rattle.clap.specs.Words.{App}
use Rattle.tomex_command_line.proofs.Taken.{taken}
use Rattle.tomex_command_line.proofs.line.table_or_csv.grammar_of.Goals as goal

pub returns : goal.returns
returns c =
    let last = taken _ _ _ c.with_argument.ensures c.on_rows-command.ensures c.table_flag.ensures.rule in
    IfOk-weaker c.with_argument.result _ _ (λ made is. ap (λ (a : App). a.top) is) last
