-- The values of the visits so far.
use Rattle.std.proofs.Common.{◌≡◌, map, slice_index, take}
use Rattle.std.specs.Option.{option_map}
use Rattle.tomex_loop_sums.proofs.visited.values_of.Given as goal

abbrev pub invariant-loop-visit : goal.invariant-loop-visit
invariant-loop-visit g l =
    l.found.items ≡ map (option_map (slice_index l.values)) (take l.visit-index l.visits)
