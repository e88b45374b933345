-- The parts of a listing, each by its call.
use Rattle.std.proofs.Common.{◌∙◌, ap, ap₂, ℕ, arith}
use Rattle.std.proofs.lemmas.Grind.{common_steps}
use Rattle.tomex_run_views.specs.Tally.{only_drain, with_drain}
use Rattle.tomex_run_views.specs.declared.tally.Sum.{Sum}
use Rattle.tomex_run_views.specs.ByPlace.{visits_in}
use Rattle.tomex_functions.specs.Calls.{calls_in}
use Rattle.tomex_functions.specs.Functions.{function_key}
use Rattle.tomex_functions.proofs.Listings.{addresses_are, keys_are, rows_are}
use Rattle.tomex_functions.proofs.rows.listing_of.Goals as goal

pub count_run-requires-clause-keys : goal.count_run-requires-clause-keys
count_run-requires-clause-keys g c = (
  function_key c.args.symbols.items,
  keys_are c.args.symbols.items c.args.steps.now _ _ _
      (c.in_ok-functions.ensures c.args.symbols.items c.in_ok-index.ensures)
      c.as_slice.ensures.value (c.as_slice-3.ensures.value ∙ c.in_ok-keys.ensures),
)

pub returns : goal.returns
returns g c =
    let symbols = c.args.symbols.items in
    let steps = c.args.steps.now in
    let functions = c.in_ok-functions.ensures symbols c.in_ok-index.ensures in
    let keys = keys_are symbols steps _ _ _ functions c.as_slice.ensures.value
    (c.as_slice-3.ensures.value ∙ c.in_ok-keys.ensures) in
    let counted = c.in_ok-counted.ensures.counted (function_key symbols) keys in
    let calls = c.in_ok-calls.ensures symbols (c.as_slice-2.ensures.value ∙ functions) in
    let ordered = c.in_ok-rows.ensures.order in
    let has = addresses_are (function_key symbols) c.args.config.now steps c.in_ok-counted.counted.tally counted.tally
    ordered in
    record {
      rows = rows_are symbols (calls_in symbols steps) (visits_in c.args.config.now steps)
          c.in_ok-counted.counted.tally _ _ counted.tally ordered
          (c.in_ok-rows.ensures.rows symbols steps c.in_ok-index.ensures calls has) c.sort_rows.ensures.moved
          c.sort_rows.ensures.order;
      last = c.only_drain.ensures ∙ ap only_drain counted.drain;
      all = c.total.ensures ∙ ap₂ (λ (n : ℕ) (s : Sum). with_drain n s) counted.drain counted.tally.all;
      calls = calls.all;
    }

pub count_calls-requires-clause-functions : goal.count_calls-requires-clause-functions
count_calls-requires-clause-functions = grind (arith, common_steps)
