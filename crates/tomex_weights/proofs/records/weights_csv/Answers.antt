-- The spans are those of the study's programs, and the rows are listed.
use Rattle.std.proofs.Common.{◌∙◌, ◌++◌, ap₂, subst, sym, List, ℕ}
use Rattle.std.specs.Prelude.{All}
use Rattle.std.specs.List.{Contains, flat_map}
use Rattle.std.proofs.lemmas.Result.{IfOk-weaker}
use Rattle.tomex_pareto.specs.declared.front_row.FrontRow.{FrontRow}
use Rattle.tomex_study.specs.StudyFront.{all_rows}
use Rattle.tomex_weights.specs.Listed.{IsOfProgram}
use Rattle.tomex_weights.specs.WeightsCsv.{row_records, weights_csv_of}
use Rattle.tomex_weights.proofs.TableRows.{each_of_program, listed_there}
use Rattle.tomex_weights.proofs.records.weights_csv.Goals as goal

pub with_rows-requires-clause-of_program : goal.with_rows-requires-clause-of_program
with_rows-requires-clause-of_program g c =
    let s = c.args.surveyed.now in
    subst (All (IsOfProgram s)) (sym (c.as_slice-all.ensures.value ∙ c.in_ok-spans.ensures)) (each_of_program s)

pub with_rows-requires-clause-rows : goal.with_rows-requires-clause-rows
with_rows-requires-clause-rows g c =
    let s = c.args.surveyed.now in
    subst (All (Contains (all_rows s))) (sym (c.as_slice.ensures.value ∙ c.in_ok-listed.ensures)) (listed_there s)

pub returns : goal.returns
unfolding weights_csv_of
returns g c =
    IfOk-weaker c.into_bytes.result _ _
    (λ text is. is ∙ (c.in_ok-with_rows.ensures
    ∙ ap₂ (λ (before : List ℕ) (rows : List FrontRow). before ++ flat_map (row_records c.args.surveyed.now) rows)
    c.in_ok-text.ensures (c.as_slice.ensures.value ∙ c.in_ok-listed.ensures)))
    c.into_bytes.ensures
