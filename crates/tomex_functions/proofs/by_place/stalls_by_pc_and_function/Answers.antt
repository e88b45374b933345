-- The report of the places, if the file has symbols.
use Rattle.std.proofs.Common.{rules, ◌∙◌, refl, sym, arith}
use Rattle.std.proofs.lemmas.Grind.{common_steps}
use Rattle.tomex_run_views.specs.ByPlace.{pc_of}
use Rattle.tomex_functions.specs.ByPlace.{function_fields}
use Rattle.tomex_functions.proofs.Listings.{addresses_are}
use Rattle.tomex_functions.proofs.Texts.{no_symbols, report_by_place}
use Rattle.tomex_functions.proofs.by_place.stalls_by_pc_and_function.Goals as goal

pub returns : goal.returns
returns g c =
    let symbols = c.in_ok-symbols.symbols.items in
    let counted = c.in_ok-counted.ensures.counted pc_of (c.as_slice.ensures.value ∙ c.in_ok-addresses.ensures) in
    let ordered = c.in_ok-text_by_place.ensures.order in
    let has = addresses_are pc_of c.args.config.now c.steps-steps.result.now c.in_ok-counted.counted.tally counted.tally
    ordered in
    record {
      text = report_by_place c.args.file.now symbols c.args.config.now c.steps-steps.result.now _
          c.in_ok-counted.counted _ c.in_ok-symbols.ensures.value c.steps-steps.ensures counted ordered
          (c.in_ok-text_by_place.ensures.text (function_fields c.args.file.now symbols) (λ k d within. record {
            symbols = symbols;
            steps = c.steps-steps.result.now;
            index_is = c.in_ok-index.ensures;
            has = has k d within;
            own_is = refl;
          }));
      some = search rules;
      refused = search rules;
      none = search rules;
    }

pub returns-then-not-has_symbols : goal.returns-then-not-has_symbols
returns-then-not-has_symbols g c = record {
  text = search rules;
  some = search rules;
  refused = λ _. no_symbols c.args.file.now (sym c.has_symbols.ensures ∙ c.if-not-has_symbols.true);
  none = search rules;
}

pub count_run-requires-clause-keys : goal.count_run-requires-clause-keys
count_run-requires-clause-keys = grind (arith, common_steps)

pub returns-in_err-text_by_place : goal.returns-in_err-text_by_place
returns-in_err-text_by_place = grind arith
