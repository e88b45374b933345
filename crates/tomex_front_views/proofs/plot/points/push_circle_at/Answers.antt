-- The circle's text, with how it is filled.
use Rattle.std.proofs.lemmas.Result.{on_ok_weaker}
use Rattle.tomex_front_views.specs.Plot.{circle_at}
use Rattle.tomex_front_views.proofs.plot.points.push_circle_at.Goals as goal

pub returns : goal.returns
unfolding circle_at
returns g c = on_ok_weaker c.write.result (λ last. rw c.fill_of-fill.ensures at last) c.write.ensures.bytes
