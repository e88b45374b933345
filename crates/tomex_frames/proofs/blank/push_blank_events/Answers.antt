-- One piece after the other.
use Rattle.std.proofs.lemmas.Result.{on_ok_weaker}
use Rattle.tomex_frames.specs.Blank.{blank_events}
use Rattle.tomex_layout.proofs.Pieces.{◌▸◌, last_piece}
use Rattle.tomex_frames.proofs.blank.push_blank_events.Goals as goal

pub returns : goal.returns
unfolding blank_events
returns g c =
    on_ok_weaker c.write.result (λ last.
    (c.in_ok-push_str.ensures.bytes ▸ (rw c.all_events.ensures at c.in_ok-push_all_events.ensures)
    ▸ last_piece last).is) c.write.ensures.bytes
