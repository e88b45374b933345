-- One part of the report after the other.
use Rattle.std.proofs.lemmas.Result.{on_ok_weaker}
use Rattle.tomex_layout.proofs.Pieces.{◌▸◌, last_piece}
use Rattle.tomex_run_views.proofs.by_place.put_counted.Goals as goal

pub returns-clause-text : goal.returns-clause-text
returns-clause-text g c =
    on_ok_weaker c.put_last-2.result (λ last own shows.
    (c.in_ok-put_header.ensures.text ▸ c.in_ok-put_places.ensures.text own shows
    ▸ (rw c.only_drain-drain.ensures at c.in_ok-put_last.ensures.text) ▸ last_piece (rw c.total.ensures at last)).is)
    c.put_last-2.ensures.text
