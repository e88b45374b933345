-- Nothing has happened yet.
use Rattle.std.proofs.Common.{◌∙◌, [], arith, refl}
use Rattle.tomex_evaluation.proofs.Arrivals.{begins}
use Rattle.tomex_evaluation.proofs.evaluation.Evaluation.new.Goals as goal

pub returns : goal.returns
returns g c =
    let shows = c.new-state.ensures c.args.task.now.config.now in
    begins c.args.task.now.config.now c.args.task.now.run.now c.args.task.now.blocks.now c.requires _ refl shows
    (c.first_issue-time.ensures [] shows) c.none.ensures c.in_ok-new.ensures.0 c.in_ok-new.ensures.1
    (c.in_ok-new.ensures.2 ∙ c.different.ensures) (omega (arith, c.in_ok-new.ensures.2))
