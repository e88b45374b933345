-- One piece after the other.
use Rattle.std.proofs.lemmas.Result.{on_ok_weaker}
use Rattle.tomex_layout.proofs.Pieces.{◌▸◌, last_piece}
use Rattle.tomex_page.specs.Page.{overview}
use Rattle.tomex_page.proofs.overview.push_overview.Goals as goal

pub returns : goal.returns
unfolding overview
returns g c =
    on_ok_weaker c.write.result (λ last.
    (c.in_ok-push_str.ensures.bytes ▸ c.in_ok-push_linked_picture.ensures ▸ c.in_ok-push_str-2.ensures.bytes
    ▸ (rw c.study-study.ensures at c.in_ok-push_programs_table.ensures) ▸ c.in_ok-push_lists_table.ensures
    ▸ c.in_ok-push_floor_sentence.ensures ▸ last_piece last).is) c.write.ensures.bytes
