-- One piece after the other.
use Rattle.std.proofs.lemmas.Result.{on_ok_weaker}
use Rattle.tomex_frames.specs.Blank.{blank_station}
use Rattle.tomex_layout.proofs.Pieces.{◌▸◌, last_piece}
use Rattle.tomex_frames.proofs.blank.push_blank_station.Goals as goal

pub returns : goal.returns
unfolding blank_station
returns g c =
    on_ok_weaker c.write-2.result (λ last.
    (c.in_ok-write.ensures.bytes ▸ c.in_ok-push_str.ensures.bytes ▸ last_piece last).is) c.write-2.ensures.bytes
