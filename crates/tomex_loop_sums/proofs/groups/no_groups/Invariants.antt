-- The groups so far are empty.
use Rattle.std.proofs.Common.{◌≡◌, [], map, replicate}
use Rattle.tomex_loop_sums.proofs.groups.no_groups.Given as goal

abbrev pub invariant-loop : goal.invariant-loop
invariant-loop g l = map (λ group. group.items) l.groups.items ≡ replicate l.counter []
