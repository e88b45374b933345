use Rattle.tomex_cycle.proofs.Words.{arith}
use Rattle.tomex_cycle.proofs.Known.{known_first}
use Rattle.tomex_cycle.proofs.Outer.{sound_start}
use Rattle.tomex_cycle.proofs.machine.Machine.new.Goals as goal

pub invariant_of-result : goal.invariant_of-result
invariant_of-result g c = (
  rw c.new.ensures (sound_start c.keeps_limits.ensures c.fills_its_window.ensures c.in_ok-new.ensures),
  omega (arith, c.in_ok-new.ensures.none_made),
  λ runs. known_first _ _ c.in_ok-new.ensures.empty c.new-2.ensures.wheel c.new-2.ensures.unsent,
)
