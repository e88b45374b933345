-- The columns are those of the table, and each has an entry for each row of the front and one more.
use Rattle.std.proofs.Common.{◌≡◌, ◌∙◌, ap, add-one, length, subst, sym, List, ◌+◌, ◌++◌, arith}
use Rattle.std.proofs.lemmas.Grind.{common_steps}
use Rattle.std.specs.Prelude.{All}
use Rattle.tomex_pareto.specs.declared.front_row.FrontRow.{FrontRow}
use Rattle.tomex_layout.proofs.Lengths.{HasEntries}
use Rattle.tomex_study.specs.StudyFront.{front_of_study}
use Rattle.tomex_layout.specs.Table.{TableColumn}
use Rattle.tomex_prices.specs.PricesTable.{columns_of, prices_table_of}
use Rattle.tomex_prices.proofs.Columns.{all_long}
use Rattle.tomex_prices.proofs.table.prices_table.Goals as goal

pub table_of-requires : goal.table_of-requires
table_of-requires g c =
    let s = c.args.surveyed.now in
    let front = front_of_study s in
    let made : c.as_slice.result.now ≡ columns_of s front =
    c.as_slice.ensures.value
    ∙ (c.in_ok-push_columns.ensures
    ∙ ap (λ (cs : List TableColumn). cs ++ columns_of s front) c.new-columns.ensures.items) in
    let long = subst (All (HasEntries front)) (sym made) (all_long s front) in
    λ k d within. long k d within ∙ (sym (add-one (length front))
    ∙ ap (λ (rs : List FrontRow). length rs + 1) (sym c.front.ensures.value))

pub returns-clause-text : goal.returns-clause-text
unfolding prices_table_of
returns-clause-text g c =
    let s = c.args.surveyed.now in
    let front = front_of_study s in
    let made : c.as_slice.result.now ≡ columns_of s front =
    c.as_slice.ensures.value
    ∙ (c.in_ok-push_columns.ensures
    ∙ ap (λ (cs : List TableColumn). cs ++ columns_of s front) c.new-columns.ensures.items) in
    rw (made, add-one, c.front.ensures.value) at c.in_ok-table_of.ensures

pub returns-then-is_too_large-clause-large : goal.returns-then-is_too_large-clause-large
returns-then-is_too_large-clause-large = grind (arith, common_steps)

pub returns-clause-large : goal.returns-clause-large
returns-clause-large = grind (arith, common_steps)
