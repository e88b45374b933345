-- After the last row.
use Rattle.std.proofs.Common.{◌∙◌, arith, true}
use Rattle.tomex_choices.proofs.Leasts.{least_of_costs}
use Rattle.tomex_survey.proofs.Leasts.{last_least}
use Rattle.tomex_choices.proofs.saving.least_cost.Goals as goal

pub returns : goal.returns
returns c =
    last_least (λ r. true) (λ r. r.cost) c.loop-row.least c.args.rows.now c.loop-row.row-index
    (omega (arith, c.loop-row-test.false))
    ∙ (c.loop-row.invariant ∙ least_of_costs c.args.rows.now)
