-- The columns are those of the prices that matter.
use Rattle.std.proofs.Common.{◌∙◌, ◌++◌, ap, map, subst, sym, List, ℕ}
use Rattle.std.specs.Prelude.{All}
use Rattle.std.specs.List.{flat_map}
use Rattle.std.proofs.lemmas.Result.{IfOk-weaker}
use Rattle.tomex_study.specs.StudyFront.{front_of_study}
use Rattle.tomex_prices.specs.Prices.{relevant_prices_of}
use Rattle.tomex_prices.specs.PricesCsv.{IsOfPrice, prices_csv_of, ranges_by, row_records}
use Rattle.tomex_prices.proofs.CsvRecords.{each_of_price}
use Rattle.tomex_prices.proofs.records.all_records.Goals as goal

pub with_front-requires-clause-columns : goal.with_front-requires-clause-columns
with_front-requires-clause-columns g c =
    let s = c.args.surveyed.now in
    c.as_slice-columns.ensures.value
    ∙ (c.in_ok-made.ensures
    ∙ ap (map (ranges_by s))
    (c.as_slice.ensures.value
    ∙ (c.in_ok-relevant.ensures ∙ ap relevant_prices_of c.study-2.ensures)))

pub with_front-requires-clause-of_price : goal.with_front-requires-clause-of_price
with_front-requires-clause-of_price g c =
    let s = c.args.surveyed.now in
    subst (All (IsOfPrice s)) (sym (c.as_slice-columns.ensures.value ∙ c.in_ok-made.ensures))
    (each_of_price s c.as_slice.result.now)

pub returns : goal.returns
unfolding prices_csv_of
returns g c =
    let s = c.args.surveyed.now in
    IfOk-weaker c.into_bytes.result _ _
    (λ text is. is ∙ (c.in_ok-with_front.ensures
    ∙ ap (λ (before : List ℕ). before ++ flat_map (row_records s) (front_of_study s)) c.in_ok-text.ensures))
    c.into_bytes.ensures
