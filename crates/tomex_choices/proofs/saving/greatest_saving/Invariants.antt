-- The greatest saving so far, and those at the costs to come.
use Rattle.std.proofs.Common.{◌≡◌, drop, map}
use Rattle.tomex_choices.specs.Savings.{greatest_saving, more, saving_among, saving_at}
use Rattle.tomex_choices.proofs.saving.greatest_saving.Given as goal

abbrev pub invariant-loop-x : goal.invariant-loop-x
invariant-loop-x l =
    more l.best (greatest_saving (map (saving_at l.rows l.machines) (map (λ x. x.cost) (drop l.x-index l.machines))))
    ≡ saving_among l.rows l.machines
