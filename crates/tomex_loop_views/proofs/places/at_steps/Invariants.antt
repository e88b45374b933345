-- The addresses so far.
use Rattle.std.proofs.Common.{◌≡◌, map, slice_index, take}
use Rattle.tomex_loop_views.proofs.places.at_steps.Given as goal

abbrev pub invariant-loop-step : goal.invariant-loop-step
invariant-loop-step g l = l.found.items ≡ map (slice_index l.addresses) (take l.step-index l.steps)
