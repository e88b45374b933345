-- The command with the part's first step, its length, and a flag.
use Rattle.std.proofs.Common.{ap}
use Rattle.std.proofs.lemmas.Result.{IfOk-weaker}
use Rattle.clap.specs.Words.{App}
use Rattle.tomex_command_line.proofs.Taken.{taken}
use Rattle.tomex_command_line.proofs.line.cut.grammar.Goals as goal

pub returns : goal.returns
returns c =
    let from = taken _ _ _ c.with_argument-command.ensures c.on_image-command.ensures c.long_numeral.ensures.rule in
    let steps = taken _ _ _ c.with_argument-command-2.ensures from c.numeral.ensures.rule in
    let last = taken _ _ _ c.with_argument.ensures steps c.flag.ensures.rule in
    IfOk-weaker c.with_argument.result _ _ (λ made is. ap (λ (a : App). a.top) is) last
