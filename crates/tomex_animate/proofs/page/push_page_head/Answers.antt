-- One piece after the other.
use Rattle.std.proofs.lemmas.Result.{on_ok_weaker}
use Rattle.tomex_animate.specs.Page.{page_head}
use Rattle.tomex_layout.proofs.Pieces.{◌▸◌, last_piece}
use Rattle.tomex_animate.proofs.page.push_page_head.Goals as goal

pub returns : goal.returns
unfolding page_head
returns g c =
    on_ok_weaker c.write.result (λ last.
    ((rw (c.as_str.ensures.value, c.in_ok-title.ensures, c.as_str-2.ensures.value, c.in_ok-style.ensures)
    at c.in_ok-push_page_start.ensures)
    ▸ c.in_ok-push_str.ensures.bytes ▸ c.in_ok-push_run_name.ensures ▸ c.in_ok-push_str-2.ensures.bytes
    ▸ c.in_ok-push_name.ensures ▸ last_piece last).is) c.write.ensures.bytes
