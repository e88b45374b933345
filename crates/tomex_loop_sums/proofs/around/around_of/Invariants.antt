-- The visits so far are in the same loop as the first.
use Rattle.std.proofs.Common.{◌≡◌, drop}
use Rattle.tomex_loop_sums.specs.Around.{around_of}
use Rattle.tomex_loop_sums.proofs.Arounds.{around_left}
use Rattle.tomex_loop_sums.proofs.around.around_of.Given as goal

abbrev pub invariant-loop-k : goal.invariant-loop-k
invariant-loop-k l = around_of l.heads ≡ around_left l.first (drop l.k l.heads)
