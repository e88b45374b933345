-- One record after the other.
use Rattle.std.proofs.lemmas.Result.{on_ok_weaker}
use Rattle.tomex_layout.proofs.Pieces.{◌▸◌, last_piece}
use Rattle.tomex_run_views.proofs.stalls.put_floors.Goals as goal

pub returns : goal.returns
returns g c =
    on_ok_weaker c.put_floor-4.result (λ last latency steps is.
    ((rw (is) at c.in_ok-put_floor.ensures.text) ▸ (rw (is) at c.in_ok-put_floor-2.ensures.text)
    ▸ (rw (is) at c.in_ok-put_floor-3.ensures.text) ▸ last_piece (rw (is) at last)).is) c.put_floor-4.ensures.text
