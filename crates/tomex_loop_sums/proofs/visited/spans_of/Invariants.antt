-- The steps of the visits so far.
use Rattle.std.proofs.Common.{◌≡◌, take}
use Rattle.tomex_loop_sums.specs.ByLoop.{spans_by}
use Rattle.tomex_loop_sums.proofs.visited.spans_of.Given as goal

abbrev pub invariant-loop-v : goal.invariant-loop-v
invariant-loop-v g l = l.spans.items ≡ spans_by l.count (take l.v l.visits) (take l.v l.ends)
