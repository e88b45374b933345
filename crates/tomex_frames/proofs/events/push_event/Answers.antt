-- One piece after the other.
use Rattle.std.proofs.lemmas.Result.{on_ok_weaker}
use Rattle.tomex_frames.specs.Events.{event_text}
use Rattle.tomex_layout.proofs.Pieces.{◌▸◌, last_piece}
use Rattle.tomex_frames.proofs.events.push_event.Goals as goal

pub returns : goal.returns
unfolding event_text
returns g c =
    on_ok_weaker c.write-2.result (λ last.
    ((rw c.name-name.ensures at c.in_ok-write.ensures.bytes) ▸ c.in_ok-push_items.ensures ▸ last_piece last).is)
    c.write-2.ensures.bytes
