-- One piece after the other.
use Rattle.std.proofs.lemmas.Result.{on_ok_weaker}
use Rattle.tomex_layout.proofs.Pieces.{◌▸◌, last_piece}
use Rattle.tomex_page.specs.Page.{page_start_of}
use Rattle.tomex_page.proofs.page.push_start.Goals as goal

pub returns : goal.returns
unfolding page_start_of
returns g c =
    on_ok_weaker c.push_front_table.result (λ last.
    ((rw (c.front.ensures.value, c.rows.ensures.count) at c.in_ok-push_page_head.ensures)
    ▸ c.in_ok-push_overview.ensures ▸ (rw c.front.ensures.value at c.in_ok-push_left_out.ensures)
    ▸ last_piece last).is) c.push_front_table.ensures
