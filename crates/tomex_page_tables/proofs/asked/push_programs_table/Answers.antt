-- One piece after the other.
use Rattle.std.proofs.lemmas.Result.{on_ok_weaker}
use Rattle.tomex_layout.proofs.Pieces.{◌▸◌, last_piece}
use Rattle.tomex_page_tables.specs.Asked.{programs_table}
use Rattle.tomex_page_tables.proofs.asked.push_programs_table.Goals as goal

pub returns : goal.returns
unfolding programs_table
returns g c =
    on_ok_weaker c.push_table_end.result (λ last.
    (c.in_ok-push_table_head.ensures ▸ (rw c.programs.ensures.value at c.in_ok-push_program_rows.ensures)
    ▸ last_piece last).is) c.push_table_end.ensures
