-- One piece after the other.
use Rattle.std.proofs.lemmas.Result.{on_ok_weaker}
use Rattle.tomex_layout.proofs.Pieces.{◌▸◌, last_piece}
use Rattle.tomex_page_rows.specs.Additions.{choices_table}
use Rattle.tomex_page_rows.proofs.additions.push_choices_table.Goals as goal

pub returns : goal.returns
unfolding choices_table
returns g c =
    on_ok_weaker c.push_table_end.result (λ last.
    (c.in_ok-push_table_head.ensures ▸ c.in_ok-push_addition_rows.ensures ▸ last_piece last).is)
    c.push_table_end.ensures
