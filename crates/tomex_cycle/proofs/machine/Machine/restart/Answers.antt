use Rattle.std.proofs.Common.{arith}
use Rattle.std.proofs.lemmas.Grind.{common_steps}
use Rattle.tomex_cycle.proofs.Words.{arith}
use Rattle.tomex_cycle.proofs.Known.{known_first}
use Rattle.tomex_cycle.proofs.Outer.{sound_start}
use Rattle.tomex_cycle.proofs.machine.Machine.restart.Goals as goal

pub invariant_of-result : goal.invariant_of-result
invariant_of-result g c = (
  rw c.new-in-Ok.ensures (sound_start c.keeps_limits.ensures c.fills_its_window.ensures c.in-Ok.ensures.fresh),
  omega (arith, c.in-Ok.ensures.fresh.none_made),
  λ runs. known_first _ _ c.in-Ok.ensures.fresh.empty c.new.ensures.wheel c.new.ensures.unsent,
)

pub invariant_of-result-in-Err : goal.invariant_of-result-in-Err
invariant_of-result-in-Err = grind (arith, common_steps)
