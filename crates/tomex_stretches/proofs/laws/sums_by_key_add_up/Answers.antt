-- By induction over the steps.
use Rattle.tomex_stretches.proofs.Keyed.{keys_add_up, order_doesnt_matter}
use Rattle.tomex_stretches.proofs.laws.sums_by_key_add_up.Goals as goal

pub returns-clause-all : goal.returns-clause-all
returns-clause-all c = keys_add_up

pub returns-clause-order : goal.returns-clause-order
returns-clause-order c = order_doesnt_matter
