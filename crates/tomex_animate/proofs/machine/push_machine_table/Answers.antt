-- One piece after the other.
use Rattle.std.proofs.lemmas.Result.{on_ok_weaker}
use Rattle.tomex_animate.specs.Machine.{machine_table}
use Rattle.tomex_layout.proofs.Pieces.{◌▸◌, last_piece}
use Rattle.tomex_animate.proofs.machine.push_machine_table.Goals as goal

pub returns : goal.returns
unfolding machine_table
returns g c =
    on_ok_weaker c.push_shared.result (λ last.
    ((rw c.machine_head-head.ensures at c.in_ok-write.ensures.bytes) ▸ c.in_ok-push_rows.ensures
    ▸ last_piece (rw (c.buses-buses.ensures.count, c.width-width.ensures.count) at last)).is) c.push_shared.ensures
