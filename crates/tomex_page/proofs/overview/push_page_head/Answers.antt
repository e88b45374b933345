-- One piece after the other.
use Rattle.std.proofs.lemmas.Result.{on_ok_weaker}
use Rattle.tomex_layout.proofs.Pieces.{◌▸◌, last_piece}
use Rattle.tomex_page.specs.Page.{page_head}
use Rattle.tomex_page.proofs.overview.push_page_head.Goals as goal

pub returns : goal.returns
unfolding page_head
returns g c =
    on_ok_weaker c.write.result (λ last.
    (c.in_ok-push_page_name.ensures ▸ c.in_ok-push_steps_sentence.ensures ▸ last_piece last).is)
    c.write.ensures.bytes
