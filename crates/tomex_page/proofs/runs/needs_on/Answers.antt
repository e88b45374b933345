-- The needs are those of the program's run.
use Rattle.std.proofs.lemmas.Result.{IfOk-weaker}
use Rattle.tomex_page.proofs.NeedsOf.{needs_of_run}
use Rattle.tomex_page.proofs.runs.needs_on.Goals as goal

pub returns : goal.returns
returns g c =
    IfOk-weaker c.needs.result _ _ (λ n are. needs_of_run c.args.config.now c.args.program.now n
    (rw c.steps.ensures.steps at are)) c.needs.ensures.exact
