-- One piece after the other.
use Rattle.std.proofs.lemmas.Result.{on_ok_weaker}
use Rattle.tomex_animate.specs.Page.{frame_head}
use Rattle.tomex_layout.proofs.Pieces.{◌▸◌, last_piece}
use Rattle.tomex_animate.proofs.view.push_head.Goals as goal

pub returns : goal.returns
unfolding frame_head
returns g c =
    on_ok_weaker c.write-2.result (λ last.
    (c.in_ok-write.ensures.bytes ▸ (rw c.links_at.ensures at c.in_ok-push_links.ensures)
    ▸ c.in_ok-push_path_line.ensures ▸ last_piece last).is)
    c.write-2.ensures.bytes
