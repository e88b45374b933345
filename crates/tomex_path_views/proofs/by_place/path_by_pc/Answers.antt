-- What was counted by address is the report by place.
use Rattle.std.proofs.Common.{[], refl}
use Rattle.std.proofs.lemmas.Result.{IfOk-weaker}
use Rattle.tomex_path_views.proofs.Reports.{places_if_made}
use Rattle.tomex_path_views.proofs.by_place.path_by_pc.Goals as goal

pub returns : goal.returns
returns g c =
    let written = IfOk-weaker c.text_of_places.result _ _ (λ t made. made (λ step. []) (λ k d within. refl))
    c.text_of_places.ensures.text in
    places_if_made [] (λ step. []) c.args.config.now
    c.args.run.now c.in_ok-tally.tally
    c.in_ok-tally.ensures c.text_of_places.result written c.text_of_places.ensures.order
