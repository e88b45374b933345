-- The lengths of the groups so far.
use Rattle.std.proofs.Common.{◌≡◌, length, map, take}
use Rattle.tomex_loop_sums.proofs.turns.lengths_of.Given as goal

abbrev pub invariant-loop-group : goal.invariant-loop-group
invariant-loop-group g l =
    l.lengths.items ≡ map length (map (λ group. group.items) (take l.group-index l.groups))
