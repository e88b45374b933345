-- The keys are those of the steps' functions.
use Rattle.std.proofs.lemmas.Result.{IfOk-weaker}
use Rattle.tomex_functions.proofs.Listings.{keys_are}
use Rattle.tomex_path_views.proofs.by_function.function_keys.Goals as goal

pub returns : goal.returns
returns g c = IfOk-weaker c.keys_of.result _ _ (λ keys those symbols is.
    keys_are symbols c.args.steps.now _ _ keys.items (c.in_ok-functions.ensures symbols is) c.as_slice.ensures.value
    those) c.keys_of.ensures
