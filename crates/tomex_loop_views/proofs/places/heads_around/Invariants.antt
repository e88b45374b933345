-- The heads around the visits so far.
use Rattle.std.proofs.Common.{◌≡◌, map, take}
use Rattle.std.specs.Option.{option_map}
use Rattle.tomex_loop_sums.specs.ByLoop.{head_of_visit}
use Rattle.tomex_loop_views.proofs.places.heads_around.Given as goal

abbrev pub invariant-loop-visit : goal.invariant-loop-visit
invariant-loop-visit g l = l.around.items
    ≡ map (λ v. option_map (head_of_visit l.addresses l.heads l.visits) v.around) (take l.visit-index l.visits)
