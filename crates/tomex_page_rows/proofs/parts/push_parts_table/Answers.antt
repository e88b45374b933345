-- One piece after the other.
use Rattle.std.proofs.lemmas.Result.{on_ok_weaker}
use Rattle.tomex_layout.proofs.Pieces.{◌▸◌, last_piece}
use Rattle.tomex_page_rows.specs.Parts.{parts_table}
use Rattle.tomex_page_rows.proofs.parts.push_parts_table.Goals as goal

pub returns : goal.returns
unfolding parts_table
returns g c =
    on_ok_weaker c.push_table_end.result (λ last.
    (c.in_ok-push_table_head.ensures ▸ (rw c.all_parts.ensures at c.in_ok-push_part_rows.ensures)
    ▸ c.in_ok-push_cost_row.ensures ▸ last_piece last).is) c.push_table_end.ensures
