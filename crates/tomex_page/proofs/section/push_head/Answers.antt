-- One piece after the other.
use Rattle.std.proofs.lemmas.Result.{on_ok_weaker}
use Rattle.tomex_layout.proofs.Pieces.{◌▸◌, last_piece}
use Rattle.tomex_page.specs.Page.{section_head}
use Rattle.tomex_page.proofs.section.push_head.Goals as goal

pub returns : goal.returns
unfolding section_head
returns g c =
    on_ok_weaker c.write.result (λ last.
    (c.in_ok-push_start.ensures ▸ (rw c.links_of.ensures at c.in_ok-push_links.ensures) ▸ last_piece last).is)
    c.write.ensures.bytes
