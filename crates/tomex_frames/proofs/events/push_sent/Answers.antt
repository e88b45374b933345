-- One piece after the other.
use Rattle.std.proofs.lemmas.Result.{on_ok_weaker}
use Rattle.tomex_frames.specs.Events.{sent_text}
use Rattle.tomex_layout.proofs.Pieces.{◌▸◌, last_piece}
use Rattle.tomex_frames.proofs.events.push_sent.Goals as goal

pub returns : goal.returns
unfolding sent_text
returns g c =
    on_ok_weaker c.push_takers.result (λ last.
    ((rw c.station.ensures at c.in_ok-write.ensures.bytes) ▸ c.in_ok-push_value.ensures
    ▸ c.in_ok-push_str.ensures.bytes ▸ last_piece last).is) c.push_takers.ensures
