-- One part after another.
use Rattle.std.proofs.Common.{◌∙◌}
use Rattle.std.proofs.lemmas.Result.{on_ok_weaker}
use Rattle.tomex_layout.proofs.Pieces.{◌▸◌, last_piece}
use Rattle.tomex_texts.specs.FrontReport.{row_numbers}
use Rattle.tomex_texts.proofs.row_numbers.push_row_numbers.Goals as goal

pub returns : goal.returns
unfolding row_numbers
returns c =
    on_ok_weaker c.push_if_wide.result (λ last.
    (c.in_ok-push.ensures.items ▸ c.in_ok-push-2.ensures.items ▸ c.in_ok-push-3.ensures.items
    ▸ c.in_ok-push_stations.ensures ▸ c.in_ok-push_units.ensures
    ▸ (rw (c.from.ensures ∙ c.buses.ensures.count) at c.in_ok-push-4.ensures.items)
    ▸ last_piece (rw (c.from-2.ensures ∙ c.width.ensures.count) at last)).is) c.push_if_wide.ensures
