-- One record after the other.
use Rattle.std.proofs.lemmas.Result.{on_ok_weaker}
use Rattle.tomex_layout.proofs.Pieces.{◌▸◌, last_piece}
use Rattle.tomex_run_views.proofs.stalls.put_others.Goals as goal

pub returns-clause-text : goal.returns-clause-text
returns-clause-text g c =
    on_ok_weaker c.put_other-6.result (λ last.
    (c.in_ok-put_other.ensures.text ▸ c.in_ok-put_other-2.ensures.text ▸ c.in_ok-put_other-3.ensures.text
    ▸ c.in_ok-put_other-4.ensures.text ▸ (rw c.drain.ensures at c.in_ok-put_other-5.ensures.text)
    ▸ last_piece last).is) c.put_other-6.ensures.text
