-- One piece after the other.
use Rattle.std.proofs.lemmas.Result.{on_ok_weaker}
use Rattle.tomex_layout.proofs.Pieces.{◌▸◌, last_piece}
use Rattle.tomex_page.specs.Page.{run_block}
use Rattle.tomex_page.proofs.runs.push_run.Goals as goal

pub returns-clause-text : goal.returns-clause-text
unfolding run_block
returns-clause-text g c =
    on_ok_weaker c.write.result (λ last.
    (c.in_ok-push_str.ensures.bytes ▸ c.in_ok-push_run_stalls.ensures.text
    ▸ (rw c.in_ok-times.ensures.times at c.in_ok-push_chart.ensures)
    ▸ last_piece last).is) c.write.ensures.bytes
