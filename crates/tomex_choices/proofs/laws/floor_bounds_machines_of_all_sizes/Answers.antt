use Rattle.tomex_choices.proofs.AboveFloors.{any_width_is_low, floor_is_low}
use Rattle.tomex_choices.proofs.laws.floor_bounds_machines_of_all_sizes.Goals as goal

pub returns-clause-own_width : goal.returns-clause-own_width
returns-clause-own_width c = floor_is_low

pub returns-clause-any_width : goal.returns-clause-any_width
returns-clause-any_width c = any_width_is_low
