-- The least cost so far, and of those to come.
use Rattle.std.proofs.Common.{◌≡◌, drop, None, true}
use Rattle.tomex_survey.proofs.Leasts.{least_by}
use Rattle.tomex_choices.proofs.saving.least_cost.Given as goal

abbrev pub invariant-loop-row : goal.invariant-loop-row
invariant-loop-row l = least_by (λ r. true) (λ r. r.cost) l.least (drop l.row-index l.rows)
    ≡ least_by (λ r. true) (λ r. r.cost) None l.rows
