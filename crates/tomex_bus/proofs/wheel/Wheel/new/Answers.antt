use Rattle.std.proofs.Common.{refl}
use Rattle.tomex_bus.proofs.Turning.{fresh_empty, fresh_ring}
use Rattle.tomex_bus.proofs.wheel.Wheel.new.Goals as goal

pub invariant_of-result : goal.invariant_of-result
invariant_of-result c = fresh_ring _ refl

pub returns : goal.returns
returns c = fresh_empty _ refl
