-- No program takes more cycles than the machine advances to, so it has ended.
use Rattle.std.proofs.Common.{◌∙◌}
use Rattle.tomex_sweep.proofs.Machines.{to_end}
use Rattle.tomex_sweep.proofs.runs.Runs.total.Goals as goal

pub returns : goal.returns
returns g c =
    let ended = to_end c.args.config.now c.args.program.now _ _ c.keeps_limits.ensures c.keeps_limits-2.ensures
    (rw c.image.ensures.value at c.in_ok-machine.ensures) c.advance.ensures.advances.after_ticks in
    c.cycle-total.ensures.value ∙ ended.cycle
