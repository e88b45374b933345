-- Those around the visits so far.
use Rattle.std.proofs.Common.{◌≡◌, map, take}
use Rattle.tomex_loop_sums.proofs.visited.within_of.Given as goal

abbrev pub invariant-loop-visit : goal.invariant-loop-visit
invariant-loop-visit g l = l.within.items ≡ map (λ v. v.within) (take l.visit-index l.visits)
