-- The places with the function of each.
use Rattle.tomex_path_views.proofs.Reports.{places_with}
use Rattle.tomex_path_views.proofs.with_functions.places_with_functions.Goals as goal

pub returns : goal.returns
returns g c = places_with c.args.file.now c.args.config.now _ c.in_ok-index.index c.in_ok-tally.tally
    c.in_ok-index.ensures c.in_ok-tally.ensures c.text_of_places.result c.text_of_places.ensures.text
    c.text_of_places.ensures.order
