-- One piece after the other.
use Rattle.std.proofs.lemmas.Result.{on_ok_weaker}
use Rattle.tomex_layout.proofs.Pieces.{◌▸◌, last_piece}
use Rattle.tomex_page.specs.Bars.{drain_cells}
use Rattle.tomex_page.proofs.bars.push_drained.Goals as goal

pub returns : goal.returns
unfolding drain_cells
returns g c =
    on_ok_weaker c.push_bar.result (λ last.
    (c.in_ok-push_empty.ensures ▸ c.in_ok-push_empty-2.ensures ▸ c.in_ok-push_number.ensures
    ▸ c.in_ok-push_empty-3.ensures ▸ last_piece last).is) c.push_bar.ensures
