-- After the greatest end each station is free.
use Rattle.std.proofs.Common.{arith}
use Rattle.tomex_reservations.proofs.FreeStations.{free_by}
use Rattle.tomex_timing.proofs.next.station_of.Goals as goal

pub returns-in-Some-clause-by : goal.returns-in-Some-clause-by
returns-in-Some-clause-by c =
    free_by c.args.stations.now.ends c.in-Some.pool c.stations.result c.args.from c.first-free.result.cycle
    c.first-free.result.number c.args.bound (omega arith) (c.requires.stations c.in-Some.pool 0 (omega arith))
    c.requires.from c.first-free.ensures
