-- One piece after the other.
use Rattle.std.proofs.lemmas.Result.{on_ok_weaker}
use Rattle.tomex_layout.proofs.Pieces.{◌▸◌, last_piece}
use Rattle.tomex_page.specs.Page.{views_text}
use Rattle.tomex_page.proofs.page.push_views.Goals as goal

pub returns : goal.returns
unfolding views_text
returns g c =
    on_ok_weaker c.write.result (λ last.
    (c.in_ok-push_str.ensures.bytes ▸ c.in_ok-push_sections.ensures.text ▸ last_piece last).is) c.write.ensures.bytes
