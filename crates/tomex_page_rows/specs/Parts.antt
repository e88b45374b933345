-- A row's parts, and its differences from the row before.
use Rattle.std.specs.Prelude.{ℕ, Bool, false, not, if◌then◌else◌, List, [], ◌∷◌, ◌++◌, codes, Option, Some, None}
use Rattle.std.specs.Fmt.{decimal}
use Rattle.std.specs.List.{flat_map}
use Rattle.tomex_html.specs.Html.{cell, table_end, td}
use Rattle.tomex_config.specs.Cost.{PriceList}
use Rattle.tomex_config.specs.Parts.{all_parts}
use Rattle.tomex_config.specs.declared.part.Part.{Part}
use Rattle.tomex_config.specs.Parts.{same_entry}
use Rattle.tomex_layout.specs.Lists.{entry_text, name_of_list}
use Rattle.tomex_config.specs.PartPrices.{cost_of_part}
use Rattle.tomex_page_tables.specs.Front.{more_cost, more_cycles, more_percent}
use Rattle.tomex_html.specs.Tables.{number_cell, table_head, table_row}
use Rattle.tomex_page_tables.specs.declared.shown.ShownRow.{ShownRow}

unfoldable pub against_start : ℕ → List ℕ
against_start row = codes "<p>Against row " ++ (decimal row ++ codes ": cost ")

-- the differences of a row from the one before
unfoldable pub against_text : ShownRow → ShownRow → List ℕ
against_text before r =
    against_start before.row.row ++ (more_cost (Some before) r ++ (codes ", cycles "
    ++ (more_cycles (Some before) r ++ (codes ", " ++ (more_percent (Some before) r ++ codes "%.</p>\n")))))

unfoldable pub cheapest : List ℕ
cheapest = codes "<p>The cheapest row of the front.</p>\n"

-- the first row has none before it
abbrev pub against : Option ShownRow → ShownRow → List ℕ
against None r = cheapest
against (Some before) r = against_text before r

-- the row before has another entry in a part's list
abbrev pub has_other : Option ShownRow → ShownRow → Part → Bool
has_other None r part = false
has_other (Some before) r part = not (same_entry before.config r.config part)

-- the entry of the row before, if it is another one
abbrev pub was_text : Option ShownRow → ShownRow → Part → List ℕ
was_text None r part = []
was_text (Some before) r part = if same_entry before.config r.config part then [] else entry_text before.config part

unfoldable pub part_cells : PriceList → Option ShownRow → ShownRow → Part → List ℕ
part_cells prices before r part =
    td (was_text before r part) ++ (cell (has_other before r part) (entry_text r.config part)
    ++ number_cell (cost_of_part prices r.config part))

unfoldable pub part_row : PriceList → Option ShownRow → ShownRow → Part → List ℕ
part_row prices before r part = table_row (name_of_list part) (part_cells prices before r part)

unfoldable pub cost_row : ℕ → List ℕ
cost_row cost = codes "<tr><th scope=\"row\">all</th><td></td><td></td><td>" ++ (decimal cost ++ codes "</td></tr>\n")

abbrev pub part_names : List (List ℕ)
part_names = codes "Part" ∷ codes "Was" ∷ codes "Has" ∷ codes "Costs" ∷ []

unfoldable pub parts_table : PriceList → Option ShownRow → ShownRow → List ℕ
parts_table prices before r =
    table_head (codes " class=\"a\"") (codes "Its parts") part_names
    ++ (flat_map (part_row prices before r) all_parts ++ (cost_row r.row.cost ++ table_end))
