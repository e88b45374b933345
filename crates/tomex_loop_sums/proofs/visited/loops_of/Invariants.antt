-- The loops of the visits so far.
use Rattle.std.proofs.Common.{◌≡◌, map, take}
use Rattle.tomex_loop_sums.proofs.visited.loops_of.Given as goal

abbrev pub invariant-loop-visit : goal.invariant-loop-visit
invariant-loop-visit g l = l.loops.items ≡ map (λ v. v.number) (take l.visit-index l.visits)
