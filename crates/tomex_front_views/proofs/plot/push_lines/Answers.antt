-- One piece after another.
use Rattle.tomex_layout.proofs.Pieces.{◌▸◌, last_piece}
use Rattle.tomex_front_views.specs.Plot.{lines_text}
use Rattle.tomex_front_views.proofs.plot.push_lines.Goals as goal

pub returns : goal.returns
unfolding lines_text
returns g c =
    (c.in_ok-push.ensures ▸ c.in_ok-push_marks.ensures ▸ c.in_ok-push_marks-2.ensures ▸ c.in_ok-push-2.ensures
    ▸ last_piece c.in_ok-push-3.ensures).is
