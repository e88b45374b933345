-- One piece after the other.
use Rattle.std.proofs.lemmas.Result.{on_ok_weaker}
use Rattle.tomex_animate.specs.Page.{page_foot}
use Rattle.tomex_layout.proofs.Pieces.{◌▸◌, last_piece}
use Rattle.tomex_animate.proofs.page.push_page_foot.Goals as goal

pub returns : goal.returns
unfolding page_foot
returns g c =
    on_ok_weaker c.push_page_end.result (λ last.
    (c.in_ok-push_str.ensures.bytes ▸ c.in_ok-push_machine_table.ensures ▸ c.in_ok-push_index.ensures
    ▸ (rw c.help_of.ensures at c.in_ok-push_str-2.ensures.bytes) ▸ c.in_ok-push_str-3.ensures.bytes
    ▸ last_piece last).is) c.push_page_end.ensures
