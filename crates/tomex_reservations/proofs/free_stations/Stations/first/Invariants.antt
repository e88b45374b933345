-- No station so far is free in the first cycle, and the soonest one to be free is known.
use Rattle.tomex_reservations.proofs.FreeStations.{IsSoonest}
use Rattle.tomex_reservations.proofs.free_stations.Stations.first.Given as goal

abbrev pub invariant-loop-number : goal.invariant-loop-number
invariant-loop-number l = IsSoonest l.self.ends l.pool l.from l.number l.soonest.cycle l.soonest.number
