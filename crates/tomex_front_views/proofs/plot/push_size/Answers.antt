-- One piece after another.
use Rattle.tomex_layout.proofs.Pieces.{◌▸◌, last_piece}
use Rattle.tomex_front_views.specs.Plot.{size_text}
use Rattle.tomex_front_views.proofs.plot.push_size.Goals as goal

pub returns : goal.returns
unfolding size_text
returns g c = (c.in_ok-push.ensures ▸ c.in_ok-push-2.ensures ▸ last_piece c.in_ok-push-3.ensures).is
