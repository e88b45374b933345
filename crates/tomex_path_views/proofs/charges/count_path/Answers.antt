-- What was counted along the path that was found.
use Rattle.std.proofs.Common.{◌∙◌, ap, map, subst, sym, List, arith}
use Rattle.std.proofs.lemmas.Grind.{common_steps}
use Rattle.std.proofs.lemmas.Result.{IfOk-weaker}
use Rattle.tomex_path_views.proofs.Visits.{along}
use Rattle.tomex_run_views.specs.ByPlace.{Visit}
use Rattle.tomex_run_views.specs.Tally.{IsTally}
use Rattle.tomex_path_views.proofs.charges.count_path.Goals as goal

pub count_links-requires-clause-keys : goal.count_links-requires-clause-keys
count_links-requires-clause-keys g c =
    (c.requires.keys.0, c.requires.keys.1 ∙ ap (map c.requires.keys.0) (sym c.steps.ensures))

pub count_links-requires-clause-short : goal.count_links-requires-clause-short
count_links-requires-clause-short = grind arith

pub count_links-requires-clause-steps : goal.count_links-requires-clause-steps
count_links-requires-clause-steps = grind (arith, common_steps)

pub returns : goal.returns
returns g c =
    let found = along c.args.config.now c.steps.result.now c.args.run.now _ c.steps.ensures
    (c.as_slice.ensures.value ∙ c.in_ok-path.ensures.exact) in
    IfOk-weaker c.count_links.result _ _ (λ tally counted key are.
    subst (λ (vs : List Visit). IsTally key vs tally) found
    (counted key (are ∙ ap (map key) (sym c.steps.ensures)))) c.count_links.ensures
