-- One piece after the other.
use Rattle.std.proofs.lemmas.Result.{on_ok_weaker}
use Rattle.tomex_layout.proofs.Pieces.{◌▸◌, last_piece}
use Rattle.tomex_page.specs.Charts.{chart_of}
use Rattle.tomex_page.proofs.charts.push_chart_of.Goals as goal

pub returns : goal.returns
unfolding chart_of
returns g c =
    on_ok_weaker c.write.result (λ last.
    (c.in_ok-push_chart_start.ensures ▸ c.in_ok-push_picture_text.ensures ▸ last_piece last).is) c.write.ensures.bytes
