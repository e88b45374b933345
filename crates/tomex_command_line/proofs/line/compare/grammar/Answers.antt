-- A command on all rows, with the two builds and the flag.
use Rattle.std.proofs.Common.{ap}
use Rattle.std.proofs.lemmas.Result.{IfOk-weaker}
use Rattle.clap.specs.Words.{App}
use Rattle.tomex_command_line.proofs.Built.{built}
use Rattle.tomex_command_line.proofs.Taken.{taken}
use Rattle.tomex_command_line.proofs.line.compare.grammar.Goals as goal

pub returns : goal.returns
returns c =
    let builds = built _ _ _ c.on_builds-command.ensures c.on_rows.ensures in
    let last = taken _ _ _ c.with_argument.ensures builds c.csv_flag.ensures.rule in
    IfOk-weaker c.with_argument.result _ _ (λ made is. ap (λ (a : App). a.top) is) last
