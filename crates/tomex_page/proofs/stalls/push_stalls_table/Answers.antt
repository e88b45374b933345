-- One piece after the other.
use Rattle.std.proofs.lemmas.Result.{on_ok_weaker}
use Rattle.tomex_layout.proofs.Pieces.{◌▸◌, last_piece}
use Rattle.tomex_page.specs.Stalls.{stalls_table}
use Rattle.tomex_page.proofs.stalls.push_stalls_table.Goals as goal

pub returns : goal.returns
unfolding stalls_table
returns g c =
    on_ok_weaker c.push_table_end.result (λ last.
    ((rw (c.as_str.ensures.value, c.in_ok-caption.ensures) at c.in_ok-push_table_head.ensures)
    ▸ c.in_ok-push_before_issue.ensures ▸ c.in_ok-push_after_issue.ensures ▸ last_piece last).is)
    c.push_table_end.ensures
