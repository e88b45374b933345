-- The report of both listings, if both files have symbols.
use Rattle.std.proofs.Common.{rules, ◌∙◌, ap₂, sym, inl, inr, arith}
use Rattle.tomex_functions.proofs.Texts.{no_symbols}
use Rattle.tomex_symbols.specs.Symbols.{symbols_of}
use Rattle.tomex_functions.specs.Changes.{build_of}
use Rattle.tomex_functions.proofs.Listed.{listing_fits}
use Rattle.tomex_functions.proofs.Reports.{change_of, function_changes_are}
use Rattle.tomex_functions.proofs.report.function_changes.Goals as goal
use Rattle.tomex_functions.proofs.report.function_changes.Goals.{then-not-has_symbols-via-then-not-has_symbols}
use Rattle.tomex_functions.proofs.report.function_changes.Goals.{then-not-has_symbols-via-else-not-has_symbols+then-not-has_symbols-2}

pub named_of-requires-clause-old : goal.named_of-requires-clause-old
named_of-requires-clause-old g c =
    listing_fits c.args.old.now.file.now (symbols_of c.args.old.now.file.now) c.args.config.now
    c.args.old.now.run.now c.in_ok-old_rows.old_rows c.total_in.result
    c.in_ok-old_rows.ensures c.total_in.ensures.value c.total_in.ensures.fits

pub named_of-requires-clause-new : goal.named_of-requires-clause-new
named_of-requires-clause-new g c =
    listing_fits c.args.new.now.file.now (symbols_of c.args.new.now.file.now) c.args.config.now
    c.args.new.now.run.now c.in_ok-new_rows.new_rows c.total_in-2.result
    c.in_ok-new_rows.ensures c.total_in-2.ensures.value c.total_in-2.ensures.fits

pub returns : goal.returns
returns g c = record {
  text = function_changes_are c.args.config.now (build_of c.args.old.now) (build_of c.args.new.now)
      c.in_ok-old_rows.old_rows c.in_ok-new_rows.new_rows _ _ _ c.in_ok-old_rows.ensures c.in_ok-new_rows.ensures
      (ap₂ change_of c.drain_in.ensures c.drain_in-2.ensures)
      (ap₂ change_of c.total_in.ensures.value c.total_in-2.ensures.value)
      (c.in_ok-text_of.ensures _ c.in_ok-named.ensures);
  old_some = search rules;
  new_some = search rules;
  refused = search rules;
  old_none = search rules;
  new_none = search rules;
}

pub returns-then-not-has_symbols : goal.returns-then-not-has_symbols
returns-then-not-has_symbols g c = record {
  text = search rules;
  old_some = search rules;
  new_some = search rules;
  refused = λ _. elim c.then-not-has_symbols.branch [
    | then-not-has_symbols-via-then-not-has_symbols w ↦
        inl (no_symbols c.args.old.now.file.now (sym c.has_symbols.ensures ∙ w.if-not-has_symbols.true))
    | then-not-has_symbols-via-else-not-has_symbols+then-not-has_symbols-2 w ↦
        inr (no_symbols c.args.new.now.file.now
        (sym w.has_symbols-else-not-has_symbols.ensures ∙ w.if-not-has_symbols-2.true))
  ];
  old_none = search rules;
  new_none = search rules;
}

pub returns-in_err-named : goal.returns-in_err-named
returns-in_err-named = grind arith

pub returns-in_err-text_of : goal.returns-in_err-text_of
returns-in_err-text_of = grind arith
