-- The gain from changing one part, as `worth` gives it.
use Rattle.std.specs.Prelude.{ℕ, List, [], ◌∷◌, ◌++◌, codes, length, take}
use Rattle.std.specs.Fmt.{decimal}
use Rattle.std.specs.List.{flat_map}
use Rattle.tomex_html.specs.Html.{table_end, td}
use Rattle.tomex_pareto.specs.declared.front_row.FrontRow.{FrontRow}
use Rattle.tomex_study.specs.Study.{DesignSpace}
use Rattle.tomex_worth.specs.Changes.{changes_of}
use Rattle.tomex_study.specs.Study.{config_at}
use Rattle.tomex_layout.specs.Differences.{percent, signed_difference}
use Rattle.tomex_layout.specs.Lists.{entry_text, name_of_list}
use Rattle.tomex_layout.specs.Rates.{rate_text}
use Rattle.tomex_worth.specs.declared.changes.Change.{Change}
use Rattle.tomex_html.specs.Tables.{table_head, table_row}
use Rattle.tomex_page_tables.specs.Front.{row_text}
use Rattle.tomex_page_tables.specs.Pieces.{more, most_lines}

-- the entry and the row that a change leads to
unfoldable pub to_cells : DesignSpace → List FrontRow → Change → List ℕ
to_cells s shown c = td (entry_text (config_at s c.row.row) c.part) ++ td (row_text shown c.row.row)

-- the gain from a change
unfoldable pub gain_cells : FrontRow → FrontRow → List ℕ
gain_cells own other =
    td (signed_difference own.cost other.cost) ++ (td (signed_difference own.cycles other.cycles)
    ++ (td (percent own.cycles other.cycles) ++ td (rate_text own other)))

unfoldable pub change_row : DesignSpace → List FrontRow → FrontRow → Change → List ℕ
change_row s shown own c =
    table_row (name_of_list c.part) (to_cells s shown c ++ gain_cells own c.row)

abbrev pub change_names : List (List ℕ)
change_names =
    codes "Part" ∷ codes "To" ∷ codes "Row" ∷ codes "Cost" ∷ codes "Cycles" ∷ codes "%" ∷ codes "Rate" ∷ []

unfoldable pub changes_table : DesignSpace → List FrontRow → FrontRow → List ℕ
changes_table s shown own =
    codes "<div>" ++ (table_head (codes " class=\"a\"") (codes "With one part changed") change_names
    ++ (flat_map (change_row s shown own) (take most_lines (changes_of s own))
    ++ (table_end ++ (more (codes "worth") (length (changes_of s own)) ++ codes "</div>\n"))))
