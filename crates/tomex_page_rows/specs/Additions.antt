-- What choices that the lists lack would bring.
use Rattle.std.specs.Prelude.{ℕ, ◌==◌, if◌then◌else◌, List, [], ◌∷◌, ◌++◌, codes, Option, Some, None}
use Rattle.std.specs.List.{flat_map}
use Rattle.tomex_config.specs.Parts.{most_of}
use Rattle.tomex_choices_table.specs.ChoicesTable.{percent_cell}
use Rattle.tomex_html.specs.Html.{table_end, td}
use Rattle.tomex_html.specs.Tables.{number_cell, table_head, table_row}
use Rattle.tomex_page_rows.specs.Lists.{choices_text}
use Rattle.tomex_study.specs.ListFindings.{ListFindings}
use Rattle.tomex_study.specs.declared.list_report.Saving.{Saving}
use Rattle.tomex_config.specs.Cost.{PriceList}
use Rattle.tomex_config.specs.declared.part.Part.{Part}
use Rattle.tomex_layout.specs.Lists.{name_of_list}

-- the choices that are worth adding to a list
abbrev pub additions_cell : PriceList → ListFindings → List ℕ
additions_cell prices l = td (choices_text prices l.part l.additions)

-- the cost of a saving, if there is one
abbrev pub cost_cell : Option Saving → List ℕ
cost_cell None = td []
cost_cell (Some v) = number_cell v.cost

-- a saving in percent, and its cost
abbrev pub saving_cells : Option Saving → List ℕ
saving_cells saving = td (percent_cell saving) ++ cost_cell saving

-- how many are enough; if it is the most, nobody knows whether it is
abbrev pub enough_cell : Part → ℕ → List ℕ
enough_cell part n = if n == most_of part then td [] else number_cell n

abbrev pub addition_cells : PriceList → ListFindings → List ℕ
addition_cells prices l = additions_cell prices l ++ (saving_cells l.saving ++ enough_cell l.part l.enough)

unfoldable pub addition_row : PriceList → ListFindings → List ℕ
addition_row prices l = table_row (name_of_list l.part) (addition_cells prices l)

abbrev pub addition_names : List (List ℕ)
addition_names =
    codes "Part" ∷ codes "Would join the front" ∷ codes "% of cycles" ∷ codes "At cost" ∷ codes "Enough" ∷ []

unfoldable pub choices_table : PriceList → List ListFindings → List ℕ
choices_table prices lists =
    table_head (codes " class=\"a x\"") (codes "What choices that the lists lack would bring") addition_names
    ++ (flat_map (addition_row prices) lists ++ table_end)
