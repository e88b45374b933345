-- Addresses are keys of steps.
use Rattle.std.proofs.Common.{◌∙◌, ap, map}
use Rattle.std.proofs.lemmas.Result.{IfOk-weaker}
use Rattle.tomex_run_views.specs.ByPlace.{pc_of}
use Rattle.tomex_path_views.proofs.charges.count_by_address.Goals as goal

pub count_path-requires-clause-keys : goal.count_path-requires-clause-keys
count_path-requires-clause-keys g c =
    (pc_of, c.as_slice.ensures.value ∙ (c.in_ok-addresses.ensures ∙ ap (map pc_of) c.steps.ensures))

pub returns : goal.returns
returns g c = IfOk-weaker c.count_path.result _ _ (λ tally counted. counted pc_of
    (c.as_slice.ensures.value ∙ (c.in_ok-addresses.ensures ∙ ap (map pc_of) c.steps.ensures)))
    c.count_path.ensures
