-- The cycles of the rounds so far.
use Rattle.std.proofs.Common.{◌≡◌, map, take}
use Rattle.tomex_loop_sums.specs.ByLoop.{round_cycles}
use Rattle.tomex_loop_sums.proofs.turns.round_cycles.Given as goal

abbrev pub invariant-loop-round : goal.invariant-loop-round
invariant-loop-round g l =
    l.cycles.items ≡ round_cycles (map (λ t. t.issue) l.times) (take l.round-index l.rounds)
