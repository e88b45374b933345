-- The report of the places, if the file has symbols.
use Rattle.std.proofs.Common.{rules, ◌∙◌, sym}
use Rattle.tomex_functions.proofs.Texts.{no_symbols}
use Rattle.tomex_path_views.proofs.with_functions.path_by_pc_and_function.Goals as goal

pub returns : goal.returns
returns g c = record {
  text = c.in_ok-places_with_functions.ensures;
  some = search rules;
  refused = search rules;
  none = search rules;
}

pub returns-then-not-has_symbols : goal.returns-then-not-has_symbols
returns-then-not-has_symbols g c = record {
  text = search rules;
  some = search rules;
  refused = λ _. no_symbols c.args.file.now (sym c.has_symbols.ensures ∙ c.if-not-has_symbols.true);
  none = search rules;
}
