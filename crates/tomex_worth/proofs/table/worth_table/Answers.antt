-- The machine is the row of its number, and its changes are rows of the study; each column has a line for each.
use Rattle.std.proofs.Common.{◌≡◌, ◌∙◌, ap, ap₂, arith, subst, sym, suc, ◌+◌, length, All}
use Rattle.std.proofs.lemmas.List.Elements.{All-get_or}
use Rattle.std.proofs.lemmas.Result.{IfOk-weaker}
use Rattle.tomex_pareto.specs.declared.front_row.FrontRow.{FrontRow}
use Rattle.tomex_layout.specs.Table.{table_of}
use Rattle.tomex_worth.specs.Worth.{columns_of, worth_table_of}
use Rattle.tomex_worth.specs.Changes.{changes_of}
use Rattle.tomex_worth.proofs.Columns.{HasLines, all_columns, columns_long}
use Rattle.tomex_worth.proofs.table.worth_table.Goals as goal

pub table_of-requires : goal.table_of-requires
table_of-requires g c =
    let s = c.args.surveyed.now in
    let made = c.as_slice-2.ensures.value ∙ all_columns s _ _ _ _ c.new-columns.ensures.items
    c.in_ok-push_headings.ensures c.in_ok-push_programs.ensures in
    let count = ap length (c.as_slice.ensures.value ∙ c.in_ok-changes.ensures.changes) in
    let lines : length c.as_slice.result.now + 1 ≡ suc (length (changes_of s _)) = omega (arith, count) in
    λ k d within. All-get_or (HasLines s _) _ k d within
    (subst (All (HasLines s _)) (sym made) (columns_long s _)) ∙ sym lines

pub returns : goal.returns
unfolding worth_table_of
returns g c =
    let s = c.args.surveyed.now in
    let made = c.as_slice-2.ensures.value ∙ all_columns s _ _ _ _ c.new-columns.ensures.items
    c.in_ok-push_headings.ensures c.in_ok-push_programs.ensures in
    let count = ap length (c.as_slice.ensures.value ∙ c.in_ok-changes.ensures.changes) in
    let lines : length c.as_slice.result.now + 1 ≡ suc (length (changes_of s _)) = omega (arith, count) in
    IfOk-weaker c.table_of.result _ _ (λ text is. is ∙ (ap₂ table_of lines made
    ∙ ap (λ (r : FrontRow). table_of (suc (length (changes_of s r))) (columns_of s r)) c.row-own.ensures))
    c.table_of.ensures
