-- One piece after the other; the totals are those of the programs on the row.
use Rattle.std.proofs.Common.{◌≡◌, ◌∙◌, ap}
use Rattle.std.specs.List.{flat_map}
use Rattle.std.proofs.lemmas.Result.{on_ok_weaker}
use Rattle.tomex_layout.proofs.Pieces.{◌▸◌, last_piece}
use Rattle.tomex_page_tables.specs.Front.{front_cells, own_programs, total_cell}
use Rattle.tomex_html.specs.Tables.{number_cell}
use Rattle.tomex_page_tables.specs.Shown.{row_of}
use Rattle.tomex_page_tables.proofs.Programs.{cells_of_totals}
use Rattle.tomex_page_tables.proofs.front.push_front_cells.Goals as goal

pub returns : goal.returns
unfolding front_cells
returns g c =
    let totals : flat_map number_cell c.own_totals.result.now
    ≡ flat_map (total_cell (row_of c.args.surveyed.now c.args.row)) (own_programs c.args.surveyed.now) =
    ap (flat_map number_cell) c.own_totals.ensures
    ∙ cells_of_totals c.args.surveyed.now c.args.row (own_programs c.args.surveyed.now) in
    let here = rw c.study.ensures at c.row_of-here.ensures in
    on_ok_weaker c.push_numbers.result (λ last.
    ((rw here at c.in_ok-push_own_cells.ensures) ▸ (rw here at c.in_ok-push_rate_cell.ensures)
    ▸ (rw (here, c.requires.settings) at c.in_ok-push_setting_cells.ensures) ▸ last_piece last).is)
    (rw totals at c.push_numbers.ensures)
