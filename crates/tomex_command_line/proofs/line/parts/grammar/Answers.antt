-- The command with the length of a stretch.
use Rattle.std.proofs.Common.{ap}
use Rattle.std.proofs.lemmas.Result.{IfOk-weaker}
use Rattle.clap.specs.Words.{App}
use Rattle.tomex_command_line.proofs.Taken.{taken}
use Rattle.tomex_command_line.proofs.line.parts.grammar.Goals as goal

pub returns : goal.returns
returns c =
    let last = taken _ _ _ c.with_argument.ensures c.on_image-command.ensures c.numeral.ensures.rule in
    IfOk-weaker c.with_argument.result _ _ (λ made is. ap (λ (a : App). a.top) is) last
