-- The record of the row.
use Rattle.std.proofs.Common.{◌∙◌, ap, arith, subst, sym, List, ℕ, ◌<◌, ◌++◌, length, map}
use Rattle.std.proofs.lemmas.Result.{on_ok_weaker}
use Rattle.std.specs.Fmt.{decimal}
use Rattle.tomex_layout.specs.Csv.{record_text}
use Rattle.tomex_study.proofs.Rows.{totals_there}
use Rattle.tomex_texts.specs.FrontReport.{row_numbers}
use Rattle.tomex_texts.proofs.Lines.{record_there}
use Rattle.tomex_texts.proofs.rows_text.put_row.Goals as goal

pub push_numbers-requires : goal.push_numbers-requires
unfolding row_numbers
push_numbers-requires g c =
    let are = c.as_slice.ensures.value ∙ c.in_ok-fill_numbers.ensures in
    record { some = subst (λ (ns : List ℕ). 0 < length ns) (sym are) (omega arith) }

pub returns : goal.returns
returns g c =
    let s = c.args.surveyed.now in
    let are = c.as_slice.ensures.value ∙ c.in_ok-fill_numbers.ensures in
    on_ok_weaker c.push_numbers.result
    (λ h. h ∙ (ap (λ (ns : List ℕ). c.args.text.now.items ++ record_text (map decimal ns)) are
    ∙ ap (λ (t : List ℕ). c.args.text.now.items ++ t)
    (record_there s c.args.row _ _ _ _ _ (rw c.study.ensures at c.wide-wide.ensures.value) c.config-config.ensures
    (c.totals-totals.ensures ∙ totals_there s c.args.row.row c.requires.row) c.requires.front c.requires.hull)))
    c.push_numbers.ensures
