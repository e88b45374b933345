-- One part of the report after the other.
use Rattle.std.proofs.lemmas.Result.{on_ok_weaker}
use Rattle.tomex_layout.proofs.Pieces.{◌▸◌, last_piece}
use Rattle.tomex_path_views.proofs.by_place.put_tally.Goals as goal

pub returns-clause-text : goal.returns-clause-text
returns-clause-text g c =
    on_ok_weaker c.put_last.result (λ last own shows.
    (c.in_ok-put_header.ensures.text ▸ c.in_ok-put_places.ensures.text own shows ▸ last_piece last).is)
    c.put_last.ensures.text
