-- One piece after the other.
use Rattle.std.proofs.lemmas.Result.{on_ok_weaker}
use Rattle.tomex_frames.specs.Blank.{blank_step}
use Rattle.tomex_layout.proofs.Pieces.{◌▸◌, last_piece}
use Rattle.tomex_frames.proofs.blank.push_blank_step.Goals as goal

pub returns : goal.returns
unfolding blank_step
returns g c =
    on_ok_weaker c.write-2.result (λ last.
    (c.in_ok-write.ensures.bytes ▸ c.in_ok-push_str.ensures.bytes ▸ last_piece last).is) c.write-2.ensures.bytes
