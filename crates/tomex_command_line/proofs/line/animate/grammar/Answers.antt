-- The arguments, one after the other.
use Rattle.std.proofs.Common.{ap}
use Rattle.std.proofs.lemmas.Result.{IfOk-weaker}
use Rattle.clap.specs.Words.{App}
use Rattle.tomex_command_line.proofs.Taken.{taken}
use Rattle.tomex_command_line.proofs.line.animate.grammar.Goals as goal

pub returns : goal.returns
returns c =
    let four = taken _ _ _ c.with_argument-command.ensures c.on_one_run-command.ensures c.number.ensures.rule in
    let five = taken _ _ _ c.with_argument-command-2.ensures four c.number-2.ensures.rule in
    let six = taken _ _ _ c.with_argument.ensures five c.flag.ensures.rule in
    IfOk-weaker c.with_argument.result _ _ (λ made is. ap (λ (a : App). a.top) is) six
