-- The report of the functions, if the file has symbols.
use Rattle.std.proofs.Common.{rules, ◌∙◌, sym}
use Rattle.tomex_functions.proofs.Texts.{no_symbols, report_by_function}
use Rattle.tomex_functions.proofs.by_function.stalls_by_function.Goals as goal

pub returns : goal.returns
returns g c = record {
  text = report_by_function c.args.file.now c.in_ok-symbols.symbols.items c.args.config.now c.steps.result.now _
      c.in_ok-listing.listing _ c.in_ok-symbols.ensures.value c.steps.ensures c.in_ok-listing.ensures
      c.in_ok-text_of_listing.ensures;
  some = search rules;
  refused = search rules;
  none = search rules;
}

pub returns-then-not-has_symbols : goal.returns-then-not-has_symbols
returns-then-not-has_symbols g c = record {
  text = search rules;
  some = search rules;
  refused = λ _. no_symbols c.args.file.now (sym c.has_symbols.ensures ∙ c.if-not-has_symbols.true);
  none = search rules;
}
