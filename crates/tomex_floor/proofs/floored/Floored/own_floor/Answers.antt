-- The floor at the configuration's own width is one of the four.
use Rattle.std.proofs.Common.{arith}
use Rattle.tomex_floor.proofs.SameFloors.{own_floor_is}
use Rattle.tomex_floor.proofs.floored.Floored.own_floor.Goals as goal

pub returns-clause-floor : goal.returns-clause-floor
returns-clause-floor g c =
    own_floor_is c.args.config.now c.args.self.now c.in_ok-floors.floors c.from.result
    c.keeps_limits.ensures c.in_ok-floors.ensures.floors (omega arith)
