-- Each column has an entry for each of the rows, and the columns are those of the table.
use Rattle.std.proofs.Common.{◌∙◌, subst, length}
use Rattle.std.proofs.lemmas.List.Elements.{All-get_or}
use Rattle.std.proofs.lemmas.Result.{IfOk-weaker}
use Rattle.std.specs.Prelude.{All}
use Rattle.tomex_front_views.specs.FrontTable.{rows_table_of}
use Rattle.tomex_front_views.proofs.Tables.{HasEntries, all_columns, columns_long}
use Rattle.tomex_front_views.proofs.table.front.rows_table.Goals as goal
use Rattle.std.proofs.Common.{sym}

pub table_of-requires : goal.table_of-requires
table_of-requires g c =
    let made = c.as_slice.ensures.value
    ∙ all_columns c.args.surveyed.now c.args.rows.now _ _ _ c.new-columns.ensures.items
    c.in_ok-push_own.ensures c.in_ok-push_programs.ensures in
    λ k d within. All-get_or (HasEntries c.args.rows.now) _ k d within
    (subst (All (HasEntries c.args.rows.now)) (sym made) (columns_long c.args.surveyed.now c.args.rows.now))

pub returns : goal.returns
unfolding rows_table_of
returns g c =
    let rows = c.args.rows.now in
    let made = c.as_slice.ensures.value ∙ all_columns c.args.surveyed.now rows _ _ _ c.new-columns.ensures.items
    c.in_ok-push_own.ensures c.in_ok-push_programs.ensures in
    let is = rw made at c.table_of.ensures in
    IfOk-weaker c.table_of.result _ _ (λ text t. t) is
