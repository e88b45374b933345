-- A configuration on the plateau gives the run the same cycles as its own.
use Rattle.tomex_plateaus.proofs.Implied.{own_lies_on, total_of_plateau}
use Rattle.tomex_plateaus.proofs.laws.demands_give_a_plateau.Goals as goal

pub returns-clause-own : goal.returns-clause-own
returns-clause-own c = own_lies_on

pub returns-clause-total : goal.returns-clause-total
returns-clause-total c = total_of_plateau
