-- Seats were split off, each with one number; the seat has the others.
use Rattle.std.specs.Vec.Iter.{into_iter_items}
use Rattle.tomex_lanes.proofs.Seating.{IsDealing}
use Rattle.tomex_lanes.proofs.worker.seat_workers.Given as goal

abbrev pub invariant-loop : goal.invariant-loop
invariant-loop g l = IsDealing l.board l.fn.lanes.items l.own l.workers.items (into_iter_items l.lanes) l.counter
