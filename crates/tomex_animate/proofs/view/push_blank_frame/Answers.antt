-- One piece after the other.
use Rattle.std.proofs.lemmas.Result.{on_ok_weaker}
use Rattle.tomex_animate.specs.Page.{blank_frame}
use Rattle.tomex_layout.proofs.Pieces.{◌▸◌, last_piece}
use Rattle.tomex_animate.proofs.view.push_blank_frame.Goals as goal

pub returns : goal.returns
unfolding blank_frame
returns g c =
    on_ok_weaker c.write.result (λ last.
    (c.in_ok-push_head.ensures ▸ c.in_ok-push_blank_events.ensures ▸ c.in_ok-push_blank_status.ensures
    ▸ c.in_ok-push_blank_stations.ensures ▸ c.in_ok-push_blank_registers.ensures ▸ last_piece last).is)
    c.write.ensures.bytes
