-- The place searched from is in the loop if the first one is.
use Rattle.std.proofs.Common.{◌≡◌, ◌<◌, length}
use Rattle.tomex_loops.specs.Loops.{is_in_loop}
use Rattle.tomex_loops.specs.Ways.{loop_in}
use Rattle.tomex_loops.proofs.forest.is_in_loop.Given as goal

abbrev pub invariant-loop-inner : goal.invariant-loop-inner
invariant-loop-inner l = record {
  within : l.inner < length l.loops;
  same : is_in_loop (loop_in l.loops) l.head l.inner ≡ is_in_loop (loop_in l.loops) l.head l.place;
}

abbrev pub decreases-loop-inner : goal.decreases-loop-inner
decreases-loop-inner l = l.inner
