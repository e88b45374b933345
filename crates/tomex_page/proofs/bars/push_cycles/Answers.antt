-- One piece after the other.
use Rattle.std.proofs.lemmas.Result.{on_ok_weaker}
use Rattle.tomex_layout.proofs.Pieces.{◌▸◌, last_piece}
use Rattle.tomex_page.specs.Bars.{cycle_cells}
use Rattle.tomex_page.proofs.bars.push_cycles.Goals as goal

pub returns : goal.returns
unfolding cycle_cells
returns g c =
    on_ok_weaker c.push_bar.result (λ last.
    (c.in_ok-push_number.ensures ▸ c.in_ok-push_number-2.ensures ▸ last_piece last).is) c.push_bar.ensures
