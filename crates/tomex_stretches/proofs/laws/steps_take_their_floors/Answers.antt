-- By induction over the run's steps.
use Rattle.tomex_stretches.proofs.Cycles.{cycles_add_up, floor_cycles_add_up, floors_are_bounds, stretches_add_up}
use Rattle.tomex_stretches.proofs.laws.steps_take_their_floors.Goals as goal

pub returns-clause-cycles : goal.returns-clause-cycles
returns-clause-cycles c = cycles_add_up

pub returns-clause-stretches : goal.returns-clause-stretches
returns-clause-stretches c = stretches_add_up

pub returns-clause-bound : goal.returns-clause-bound
returns-clause-bound c = floors_are_bounds

pub returns-clause-floors : goal.returns-clause-floors
returns-clause-floors c = floor_cycles_add_up
