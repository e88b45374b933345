-- One piece after the other.
use Rattle.std.proofs.lemmas.Result.{on_ok_weaker}
use Rattle.tomex_layout.proofs.Pieces.{◌▸◌, last_piece}
use Rattle.tomex_page.specs.Page.{page_rest}
use Rattle.tomex_page.proofs.page.push_rest.Goals as goal

pub returns : goal.returns
unfolding page_rest
returns g c =
    on_ok_weaker c.push_page_end.result (λ last.
    (c.in_ok-push_views.ensures ▸ (rw c.page_help.ensures at c.in_ok-push_str.ensures.bytes)
    ▸ c.in_ok-push_asked_help.ensures ▸ (rw c.commands_help.ensures at c.in_ok-push_str-2.ensures.bytes)
    ▸ last_piece last).is) c.push_page_end.ensures
