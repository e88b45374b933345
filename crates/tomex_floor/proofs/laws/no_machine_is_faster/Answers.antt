-- Times above the floor's equations are above the floor.
use Rattle.tomex_floor.proofs.Above.{floors_no_later, floor_is_bound}
use Rattle.tomex_floor.proofs.Falling.{floors_fall}
use Rattle.tomex_floor.proofs.Reached.{floors_reached}
use Rattle.tomex_floor.proofs.laws.no_machine_is_faster.Goals as goal

pub returns-clause-steps : goal.returns-clause-steps
returns-clause-steps c = floors_no_later

pub returns-clause-total : goal.returns-clause-total
returns-clause-total c = floor_is_bound

pub returns-clause-floors : goal.returns-clause-floors
returns-clause-floors c = floors_fall

pub returns-clause-reached : goal.returns-clause-reached
returns-clause-reached c = floors_reached
