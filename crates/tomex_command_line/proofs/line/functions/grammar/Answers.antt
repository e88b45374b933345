-- A command on one configuration of a study, with the two builds.
use Rattle.std.proofs.Common.{ap}
use Rattle.std.proofs.lemmas.Result.{IfOk-weaker}
use Rattle.clap.specs.Words.{App}
use Rattle.tomex_command_line.proofs.Built.{built}
use Rattle.tomex_command_line.proofs.Taken.{taken}
use Rattle.tomex_command_line.proofs.line.functions.grammar.Goals as goal

pub returns : goal.returns
returns c =
    let one = taken _ _ _ c.with_argument-command.ensures c.on_study-command.ensures c.config_argument.ensures.rule in
    IfOk-weaker c.on_builds.result _ _ (λ made is. ap (λ (a : App). a.top) is) (built _ _ _ c.on_builds.ensures one)
