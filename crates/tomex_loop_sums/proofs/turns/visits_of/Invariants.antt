-- The visits of the rounds so far.
use Rattle.std.proofs.Common.{◌≡◌, map, take}
use Rattle.tomex_loop_sums.proofs.turns.visits_of.Given as goal

abbrev pub invariant-loop-round : goal.invariant-loop-round
invariant-loop-round g l = l.visits.items ≡ map (λ r. r.visit) (take l.round-index l.rounds)
