-- The fewest cycles so far, and of those to come.
use Rattle.std.proofs.Common.{◌≡◌, drop}
use Rattle.std.specs.Prelude.{nat_le}
use Rattle.tomex_choices.specs.Savings.{fewest}
use Rattle.tomex_survey.proofs.Leasts.{least_by}
use Rattle.tomex_choices.proofs.saving.fewest_complete.Given as goal

abbrev pub invariant-loop-x : goal.invariant-loop-x
invariant-loop-x l =
    least_by (λ x. nat_le x.cost l.cost) (λ x. x.cycles) l.least (drop l.x-index l.machines)
    ≡ least_by (λ x. nat_le x.cost l.cost) (λ x. x.cycles) (fewest l.rows l.cost) l.machines
