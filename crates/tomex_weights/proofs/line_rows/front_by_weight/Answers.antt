-- The rows of the front are rows of the study.
use Rattle.std.proofs.Common.{sym, subst, All, List}
use Rattle.std.specs.List.{Contains}
use Rattle.std.proofs.lemmas.Result.{IfOk-weaker}
use Rattle.tomex_pareto.specs.declared.front_row.FrontRow.{FrontRow}
use Rattle.tomex_pareto.specs.declared.line_row.LineRow.{LineRow}
use Rattle.tomex_study.specs.StudyFront.{all_rows}
use Rattle.tomex_weights.specs.Spans.{rows_by_weight}
use Rattle.tomex_weights.proofs.FrontFirst.{front_there, lines_there}
use Rattle.tomex_weights.proofs.line_rows.front_by_weight.Goals as goal

pub lines_of-requires-clause-rows : goal.lines_of-requires-clause-rows
lines_of-requires-clause-rows g c =
    let s = c.args.surveyed.now in
    subst (λ (rows : List FrontRow). All (Contains (all_rows s)) rows) (sym c.front.ensures.value) (front_there s)

pub returns-clause-rows : goal.returns-clause-rows
returns-clause-rows g c = rw c.front.ensures.value at c.lines_of.ensures.rows

pub returns-clause-there : goal.returns-clause-there
returns-clause-there g c =
    let s = c.args.surveyed.now in
    IfOk-weaker c.lines_of.result _ _ (λ v is.
    subst (λ (lines : List LineRow). All (Contains (rows_by_weight s c.args.place)) lines) (sym is)
    (lines_there s c.args.place)) (returns-clause-rows g c)
