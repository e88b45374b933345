-- One piece after the other.
use Rattle.std.proofs.lemmas.Result.{on_ok_weaker}
use Rattle.tomex_layout.proofs.Pieces.{◌▸◌, last_piece}
use Rattle.tomex_page.specs.Stalls.{cause_cells}
use Rattle.tomex_page.proofs.stalls.push_cause_cells.Goals as goal

pub returns : goal.returns
unfolding cause_cells
returns g c =
    on_ok_weaker c.push_cycles.result (λ last.
    (c.in_ok-push_empty.ensures ▸ c.in_ok-push_empty-2.ensures ▸ last_piece last).is)
    (rw c.on_path.ensures at c.push_cycles.ensures)
