-- The ones of the steps so far.
use Rattle.std.proofs.Common.{◌≡◌, map, take}
use Rattle.tomex_loop_sums.proofs.spent.ones.Given as goal

abbrev pub invariant-loop : goal.invariant-loop
invariant-loop g l = l.ones.items ≡ map (λ s. 1) (take l.index l.steps)
