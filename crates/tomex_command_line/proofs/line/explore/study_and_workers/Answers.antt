-- The command's shape is the top of its shape as a program.
use Rattle.std.proofs.Common.{ap}
use Rattle.std.proofs.lemmas.Result.{IfOk-weaker}
use Rattle.clap.specs.Words.{App}
use Rattle.tomex_command_line.proofs.line.explore.study_and_workers.Goals as goal

pub returns : goal.returns
returns c = IfOk-weaker c.on_rows.result _ _ (λ made is. ap (λ (a : App). a.top) is) c.on_rows.ensures
