-- Each column has three lines.
use Rattle.std.proofs.Common.{◌≡◌, ◌∙◌, All, length, refl, subst, sym}
use Rattle.std.proofs.lemmas.List.Elements.{All-get_or}
use Rattle.tomex_layout.proofs.Each.{all_map}
use Rattle.tomex_layout.specs.Table.{TableColumn}
use Rattle.tomex_compare.specs.ProgramTable.{all_headings, heading_column}
use Rattle.tomex_compare.proofs.program_table.program_table.Goals as goal

pub table_of-requires : goal.table_of-requires
unfolding heading_column
table_of-requires g c =
    let HasLines : TableColumn → Type 0 = λ column. length column.entries ≡ 3 in
    let made = c.as_slice.ensures.value ∙ c.in_ok-columns.ensures in
    λ k d within. All-get_or HasLines _ k d within
    (subst (All HasLines) (sym made) (all_map HasLines (heading_column _ _) all_headings (λ heading. refl)))
