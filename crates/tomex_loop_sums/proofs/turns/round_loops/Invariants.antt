-- The loops of the rounds so far.
use Rattle.std.proofs.Common.{◌≡◌, map, slice_index, take}
use Rattle.tomex_loop_sums.proofs.turns.round_loops.Given as goal

abbrev pub invariant-loop-round : goal.invariant-loop-round
invariant-loop-round g l =
    l.found.items ≡ map (λ r. slice_index l.loops r.visit) (take l.round-index l.rounds)
