-- One piece after the other.
use Rattle.std.proofs.lemmas.Result.{on_ok_weaker}
use Rattle.tomex_animate.specs.Machine.{machine_row}
use Rattle.tomex_layout.proofs.Pieces.{◌▸◌, last_piece}
use Rattle.tomex_animate.proofs.machine.push_row.Goals as goal

pub returns : goal.returns
unfolding machine_row
returns g c =
    on_ok_weaker c.write-2.result (λ last.
    (c.in_ok-write.ensures.bytes ▸ c.in_ok-push_numbers.ensures ▸ last_piece last).is) c.write-2.ensures.bytes
