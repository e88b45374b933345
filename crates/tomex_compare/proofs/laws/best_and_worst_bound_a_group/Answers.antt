-- A group is in the order of all rows.
use Rattle.tomex_compare.proofs.Chosen.{bound_ratios}
use Rattle.tomex_compare.proofs.laws.best_and_worst_bound_a_group.Goals as goal

pub returns : goal.returns
returns c = bound_ratios
