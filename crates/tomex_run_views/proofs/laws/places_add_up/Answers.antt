-- The keys of visits list each key of them once.
use Rattle.std.proofs.Common.{◌∙◌, sym}
use Rattle.tomex_run_views.proofs.SumsOfPlaces.{by_keys, ones, ones_in_all}
use Rattle.tomex_run_views.proofs.laws.places_add_up.Goals as goal

pub returns-clause-steps : goal.returns-clause-steps
returns-clause-steps c key visits keys are =
    ones_in_all key visits keys ∙ (by_keys key (λ v. 1) visits keys are.ascending (λ k there. are.those k ∙ there)
    ∙ sym (ones visits))

pub returns-clause-sums : goal.returns-clause-sums
returns-clause-sums c value key visits keys are =
    by_keys key value visits keys are.ascending (λ k there. are.those k ∙ there)
