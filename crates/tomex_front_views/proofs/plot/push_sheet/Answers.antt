-- One piece after another.
use Rattle.tomex_layout.proofs.Pieces.{◌▸◌, last_piece}
use Rattle.tomex_front_views.specs.Plot.{sheet}
use Rattle.tomex_front_views.proofs.plot.push_sheet.Goals as goal

pub returns : goal.returns
unfolding sheet
returns g c =
    (c.in_ok-push.ensures ▸ c.in_ok-push-2.ensures ▸ c.in_ok-push-3.ensures ▸ c.in_ok-push-4.ensures
    ▸ c.in_ok-push-5.ensures ▸ c.in_ok-push-6.ensures ▸ last_piece c.in_ok-push-7.ensures).is
