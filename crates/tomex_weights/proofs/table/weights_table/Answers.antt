-- The columns are those of the table, and each has an entry for each listed row and one more.
use Rattle.std.proofs.Common.{◌≡◌, ◌∙◌, ap, add-one, length, subst, sym, List, ◌++◌}
use Rattle.std.specs.Prelude.{All}
use Rattle.std.specs.List.{Contains}
use Rattle.tomex_layout.proofs.Lengths.{HasEntries}
use Rattle.tomex_study.specs.StudyFront.{all_rows}
use Rattle.tomex_layout.specs.Table.{TableColumn}
use Rattle.tomex_weights.specs.Listed.{listed_rows_of}
use Rattle.tomex_weights.specs.WeightsTable.{columns_of, weights_table_of}
use Rattle.tomex_weights.proofs.TableRows.{all_long, listed_there}
use Rattle.tomex_weights.proofs.table.weights_table.Goals as goal

pub push_columns-requires-clause-rows : goal.push_columns-requires-clause-rows
push_columns-requires-clause-rows g c =
    let s = c.args.surveyed.now in
    subst (All (Contains (all_rows s))) (sym (c.as_slice-rows.ensures.value ∙ c.in_ok-listed.ensures)) (listed_there s)

pub table_of-requires : goal.table_of-requires
table_of-requires g c =
    let s = c.args.surveyed.now in
    let rows = c.as_slice-rows.result.now in
    let made : c.as_slice.result.now ≡ columns_of s rows =
    c.as_slice.ensures.value
    ∙ (c.in_ok-push_columns.ensures
    ∙ ap (λ (cs : List TableColumn). cs ++ columns_of s rows) c.new-columns.ensures.items) in
    let long = subst (All (HasEntries rows)) (sym made) (all_long s rows) in
    λ k d within. long k d within ∙ sym (add-one (length rows))

pub returns : goal.returns
unfolding weights_table_of
returns g c =
    let s = c.args.surveyed.now in
    let rows = c.as_slice-rows.result.now in
    let made : c.as_slice.result.now ≡ columns_of s rows =
    c.as_slice.ensures.value
    ∙ (c.in_ok-push_columns.ensures
    ∙ ap (λ (cs : List TableColumn). cs ++ columns_of s rows) c.new-columns.ensures.items) in
    let listed : rows ≡ listed_rows_of s = c.as_slice-rows.ensures.value ∙ c.in_ok-listed.ensures in
    rw (made, add-one, listed) at c.table_of.ensures
