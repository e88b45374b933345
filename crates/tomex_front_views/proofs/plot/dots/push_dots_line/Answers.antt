-- One piece after another.
use Rattle.std.proofs.lemmas.Result.{on_ok_weaker}
use Rattle.tomex_layout.proofs.Pieces.{◌▸◌, last_piece}
use Rattle.tomex_front_views.specs.Dots.{dots_line}
use Rattle.tomex_front_views.proofs.plot.dots.push_dots_line.Goals as goal

pub returns : goal.returns
unfolding dots_line
returns g c =
    on_ok_weaker c.write.result (λ last.
    (c.in_ok-push_str.ensures.bytes ▸ c.in_ok-push_dots.ensures ▸ c.in_ok-push_str-2.ensures.bytes
    ▸ last_piece (rw c.width_of-width.ensures at last)).is) c.write.ensures.bytes
