-- Each column has a line for each list.
use Rattle.std.proofs.Common.{◌≡◌, ◌∙◌, All, length, subst, sym}
use Rattle.std.proofs.lemmas.List.{length-map}
use Rattle.std.proofs.lemmas.List.Elements.{All-get_or}
use Rattle.tomex_layout.proofs.Each.{all_map}
use Rattle.tomex_layout.specs.Table.{TableColumn}
use Rattle.tomex_choices_table.specs.ChoicesTable.{all_headings, heading_column, text_under}
use Rattle.tomex_choices_table.proofs.table.choices_table.Goals as goal

pub table_of-requires : goal.table_of-requires
unfolding heading_column
table_of-requires g c =
    let lists = c.args.lists.now in
    let HasLines : TableColumn → Type 0 = λ column. length column.entries ≡ length lists in
    let made = c.as_slice.ensures.value ∙ c.in_ok-columns.ensures in
    λ k d within. All-get_or HasLines _ k d within
    (subst (All HasLines) (sym made)
    (all_map HasLines (heading_column lists) all_headings (λ heading. length-map lists (text_under heading))))
