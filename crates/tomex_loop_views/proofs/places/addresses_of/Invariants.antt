-- The addresses of the steps so far.
use Rattle.std.proofs.Common.{◌≡◌, map, take}
use Rattle.tomex_loop_views.proofs.places.addresses_of.Given as goal

abbrev pub invariant-loop-step : goal.invariant-loop-step
invariant-loop-step g l = l.addresses.items ≡ map (λ s. s.pc) (take l.step-index l.steps)
