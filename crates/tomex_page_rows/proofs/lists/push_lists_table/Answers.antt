-- One piece after the other.
use Rattle.std.proofs.lemmas.Result.{on_ok_weaker}
use Rattle.tomex_layout.proofs.Pieces.{◌▸◌, last_piece}
use Rattle.tomex_page_rows.specs.Lists.{lists_table}
use Rattle.tomex_page_rows.proofs.lists.push_lists_table.Goals as goal

pub returns : goal.returns
unfolding lists_table
returns g c =
    on_ok_weaker c.push_table_end.result (λ last.
    (c.in_ok-push_table_head.ensures ▸ (rw c.all_parts.ensures at c.in_ok-push_list_rows.ensures)
    ▸ last_piece last).is) c.push_table_end.ensures
