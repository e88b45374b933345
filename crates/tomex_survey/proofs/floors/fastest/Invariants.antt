-- The fewest cycles so far, and of the rows to come.
use Rattle.std.proofs.Common.{◌≡◌, drop, None, true}
use Rattle.tomex_survey.proofs.Leasts.{least_by}
use Rattle.tomex_survey.proofs.floors.fastest.Given as goal

abbrev pub invariant-loop-row : goal.invariant-loop-row
invariant-loop-row g l = least_by (λ r. true) (λ r. r.cycles) l.least (drop l.row-index l.row-items)
    ≡ least_by (λ r. true) (λ r. r.cycles) None l.row-items
