-- The ends so far are moved, the rest is as before.
use Rattle.std.proofs.Common.{◌≡◌, ◌+◌, ◌++◌, map, take, drop}
use Rattle.tomex_reservations.proofs.free_stations.Stations.shift.Given as goal

abbrev pub invariant-loop-end : goal.invariant-loop-end
invariant-loop-end l =
    l.end-items ≡ map (λ e. e + l.by) (take l.end-index l.fn.self.ends) ++ drop l.end-index l.fn.self.ends
