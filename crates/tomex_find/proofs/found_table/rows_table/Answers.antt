-- Each column has an entry for each of the rows.
use Rattle.std.proofs.Common.{◌∙◌, subst, sym}
use Rattle.std.proofs.lemmas.List.Elements.{All-get_or}
use Rattle.std.proofs.lemmas.Result.{IfOk-weaker}
use Rattle.std.specs.Prelude.{All}
use Rattle.tomex_find.specs.Find.{rows_table_of}
use Rattle.tomex_find.proofs.FoundColumns.{HasEntries, columns_long}
use Rattle.tomex_find.proofs.found_table.rows_table.Goals as goal

pub table_of-requires : goal.table_of-requires
table_of-requires g c =
    let made = c.as_slice.ensures.value ∙ c.in_ok-columns.ensures in
    λ k d within. All-get_or (HasEntries c.args.rows.now) _ k d within
    (subst (All (HasEntries c.args.rows.now)) (sym made) (columns_long c.args.study.now c.args.rows.now))

pub returns : goal.returns
unfolding rows_table_of
returns g c =
    let made = c.as_slice.ensures.value ∙ c.in_ok-columns.ensures in
    let is = rw made at c.table_of.ensures in
    IfOk-weaker c.table_of.result _ _ (λ text t. t) is
