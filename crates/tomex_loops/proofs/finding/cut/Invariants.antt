-- As many as are left stand as before.
use Rattle.std.proofs.Common.{◌≡◌, length, take}
use Rattle.tomex_loops.specs.Ways.{AreStops}
use Rattle.tomex_loops.proofs.finding.cut.Given as goal

abbrev pub invariant-loop-stops : goal.invariant-loop-stops
invariant-loop-stops g l = record {
  stops : take l.count l.stops.items ≡ take l.count l.fn.stops.items;
  at : AreStops l.stops.items l.at.items;
  many : length l.at.items ≡ length l.fn.at.items;
}

abbrev pub decreases-loop-stops : goal.decreases-loop-stops
decreases-loop-stops g l = length l.stops.items
