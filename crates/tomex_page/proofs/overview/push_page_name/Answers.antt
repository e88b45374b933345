-- One piece after the other.
use Rattle.std.proofs.lemmas.Result.{on_ok_weaker}
use Rattle.tomex_layout.proofs.Pieces.{◌▸◌, last_piece}
use Rattle.tomex_page.specs.Page.{page_name}
use Rattle.tomex_page.proofs.overview.push_page_name.Goals as goal

pub returns : goal.returns
unfolding page_name
returns g c =
    on_ok_weaker c.write.result (λ last.
    ((rw (c.as_str.ensures.value, c.in_ok-title.ensures, c.page_css.ensures) at c.in_ok-push_page_start.ensures)
    ▸ c.in_ok-push_str.ensures.bytes ▸ c.in_ok-push_name.ensures ▸ c.in_ok-push_str-2.ensures.bytes
    ▸ c.in_ok-push_counts.ensures ▸ last_piece last).is) c.write.ensures.bytes
