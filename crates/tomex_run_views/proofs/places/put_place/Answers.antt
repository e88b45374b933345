-- The record's fields are those of the place.
use Rattle.std.proofs.lemmas.Result.{on_ok_weaker}
use Rattle.tomex_run_views.proofs.places.put_place.Goals as goal

pub returns-clause-text : goal.returns-clause-text
returns-clause-text g c =
    on_ok_weaker c.put_record.result (λ put own shows. rw (c.in_ok-fill_place.ensures own shows) at put)
    c.put_record.ensures.text
