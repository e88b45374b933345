-- By induction over the stretch.
use Rattle.tomex_stretches.proofs.From.{floor_from_first, stretch_is_bound, last_stretch_is_bound}
use Rattle.tomex_stretches.proofs.Whole.{sum_is_bound, floors_add_up}
use Rattle.tomex_stretches.proofs.laws.stretches_take_their_floors.Goals as goal

pub returns-clause-steps : goal.returns-clause-steps
returns-clause-steps c = floor_from_first

pub returns-clause-issues : goal.returns-clause-issues
returns-clause-issues c = stretch_is_bound

pub returns-clause-total : goal.returns-clause-total
returns-clause-total c = last_stretch_is_bound

pub returns-clause-sum : goal.returns-clause-sum
returns-clause-sum c = sum_is_bound

pub returns-clause-floors : goal.returns-clause-floors
returns-clause-floors c = floors_add_up
