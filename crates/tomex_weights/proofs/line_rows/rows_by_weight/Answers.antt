-- All rows are rows of the study.
use Rattle.std.proofs.Common.{sym, subst, All, List}
use Rattle.std.specs.List.{Contains}
use Rattle.std.proofs.lemmas.List.Elements.{All-contains_itself}
use Rattle.tomex_pareto.specs.declared.front_row.FrontRow.{FrontRow}
use Rattle.tomex_study.specs.StudyFront.{all_rows}
use Rattle.tomex_weights.proofs.line_rows.rows_by_weight.Goals as goal

pub lines_of-requires-clause-rows : goal.lines_of-requires-clause-rows
lines_of-requires-clause-rows g c =
    let s = c.args.surveyed.now in
    subst (λ (rows : List FrontRow). All (Contains (all_rows s)) rows) (sym c.rows.ensures.value)
    (All-contains_itself (all_rows s))

pub returns-clause-rows : goal.returns-clause-rows
returns-clause-rows g c = rw c.rows.ensures.value at c.lines_of.ensures.rows
