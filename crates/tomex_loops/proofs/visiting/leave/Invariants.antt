-- Those that are left go on if those from the first do.
use Rattle.std.proofs.Common.{◌≡◌, ◌≤◌, drop, length, reverse, take}
use Rattle.tomex_loops.specs.Visits.{close, ending, still_open}
use Rattle.tomex_loops.specs.Ways.{loop_in}
use Rattle.tomex_loops.proofs.visiting.leave.Given as goal

abbrev pub invariant-loop-under_way : goal.invariant-loop-under_way
invariant-loop-under_way g l = record {
  low : l.base ≤ length l.under_way.items;
  around : take l.base l.under_way.items ≡ take l.base l.fn.under_way.items;
  here : still_open (loop_in l.loops) l.place (reverse (drop l.base l.under_way.items))
      ≡ still_open (loop_in l.loops) l.place (reverse (drop l.base l.fn.under_way.items));
  ends : close l.now (ending (loop_in l.loops) l.place (reverse (drop l.base l.under_way.items))) l.ends.items
      ≡ close l.now (ending (loop_in l.loops) l.place (reverse (drop l.base l.fn.under_way.items))) l.fn.ends.items;
}

abbrev pub decreases-loop-under_way : goal.decreases-loop-under_way
decreases-loop-under_way g l = length l.under_way.items
