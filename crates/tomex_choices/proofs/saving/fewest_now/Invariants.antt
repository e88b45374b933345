-- The fewest cycles so far, and of those to come.
use Rattle.std.proofs.Common.{◌≡◌, drop, None}
use Rattle.std.specs.Prelude.{nat_le}
use Rattle.tomex_survey.proofs.Leasts.{least_by}
use Rattle.tomex_choices.proofs.saving.fewest_now.Given as goal

abbrev pub invariant-loop-row : goal.invariant-loop-row
invariant-loop-row l =
    least_by (λ r. nat_le r.cost l.cost) (λ r. r.cycles) l.least (drop l.row-index l.rows)
    ≡ least_by (λ r. nat_le r.cost l.cost) (λ r. r.cycles) None l.rows
