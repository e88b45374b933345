use Rattle.std.proofs.Common.{[], inr, ⊎_elim}
use Rattle.tomex_board.proofs.Distinct.{of_with, in_with}
use Rattle.tomex_board.proofs.Rising.{distinct_rise}
use Rattle.tomex_board.proofs.laws.distinct_costs_are_the_costs.Goals as goal

pub returns-clause-kept : goal.returns-clause-kept
returns-clause-kept c costs x =
    (λ h. in_with [] costs x (inr h), λ h. ⊎_elim (λ f. absurd f) (λ q. q) (of_with [] costs x h))

pub returns-clause-rise : goal.returns-clause-rise
returns-clause-rise c = distinct_rise
