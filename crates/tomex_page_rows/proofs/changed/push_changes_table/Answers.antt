-- One piece after the other; all changes lead to rows of the study.
use Rattle.std.proofs.Common.{◌∙◌, ◌<◌, ap, subst, sym, length, take, All}
use Rattle.std.proofs.lemmas.List.Elements.{All-get_or, All-take}
use Rattle.std.proofs.lemmas.Result.{on_ok_weaker}
use Rattle.tomex_layout.proofs.Pieces.{◌▸◌, last_piece}
use Rattle.tomex_worth.specs.declared.changes.Change.{Change}
use Rattle.tomex_page_rows.specs.Changed.{changes_table}
use Rattle.tomex_page_tables.specs.Pieces.{most_lines}
use Rattle.tomex_page_rows.proofs.changed.push_changes_table.Goals as goal

pub push_change_rows-requires : goal.push_change_rows-requires
push_change_rows-requires g c =
    let IsRow : Change → Type 0 = λ x. x.row.row < length c.args.surveyed.now.rows in
    let are = c.first_lines.ensures ∙ ap (take most_lines) c.as_slice-lines.ensures.value in
    λ k d within. All-get_or IsRow _ k d within
    (subst (All IsRow) (sym are) (All-take IsRow most_lines _ c.in_ok-changes.ensures.within))

pub returns : goal.returns
unfolding changes_table
returns g c =
    let changes = c.as_slice-lines.ensures.value ∙ c.in_ok-changes.ensures.changes in
    on_ok_weaker c.write.result (λ last.
    (c.in_ok-push_str.ensures.bytes ▸ c.in_ok-push_table_head.ensures
    ▸ (rw (c.first_lines.ensures, changes) at c.in_ok-push_change_rows.ensures) ▸ c.in_ok-push_table_end.ensures
    ▸ (rw changes at c.in_ok-push_more.ensures) ▸ last_piece last).is) c.write.ensures.bytes
