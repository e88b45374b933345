-- The rows are those of the study, and the spans those of its programs.
use Rattle.std.proofs.Common.{subst, sym}
use Rattle.std.specs.Prelude.{All}
use Rattle.tomex_weights.specs.Listed.{IsOfProgram}
use Rattle.tomex_weights.proofs.TableRows.{columns_are, each_of_program, rows_within}
use Rattle.tomex_weights.proofs.table.push_columns.Goals as goal

pub percent_column-requires : goal.percent_column-requires
percent_column-requires g c =
    rows_within c.args.surveyed.now c.args.rows.now c.keeps_limits.ensures c.requires.rows

pub push_weights-requires-clause-all : goal.push_weights-requires-clause-all
push_weights-requires-clause-all g c =
    let s = c.args.surveyed.now in
    subst (All (IsOfProgram s)) (sym c.requires.all) (each_of_program s)

pub returns : goal.returns
returns g c =
    columns_are c.args.surveyed.now c.args.rows.now c.args.columns.now.items c.requires.all
    c.in_ok-percent_column.ensures c.in_ok-push_row_columns.ensures c.in_ok-push.ensures.items
    c.in_ok-push_weights.ensures
