-- The lists of parts: their choices, the prices of these, and which of them no row of the front has.
use Rattle.std.specs.Prelude.{ℕ, List, [], ◌∷◌, ◌++◌, codes}
use Rattle.std.specs.List.{flat_map}
use Rattle.tomex_study.specs.Choices.{unused}
use Rattle.tomex_config.specs.Configuration.{Configuration}
use Rattle.tomex_config.specs.Cost.{PriceList}
use Rattle.tomex_html.specs.Html.{table_end, td}
use Rattle.tomex_html.specs.Tables.{table_head, table_row}
use Rattle.tomex_page_tables.specs.Asked.{entries_text, facet_text, prices_text}
use Rattle.tomex_page_tables.specs.Pieces.{some}
use Rattle.tomex_page_tables.specs.declared.choices.Facet.TheVariants.{Choice}
use Rattle.tomex_study.specs.Study.{DesignSpace}
use Rattle.tomex_config.specs.Parts.{all_parts}
use Rattle.tomex_config.specs.declared.part.Part.{Part}
use Rattle.tomex_layout.specs.Lists.{name_of_list}

-- the texts of some configurations' entries in a part's list, with a sign if there are more than are shown
abbrev pub choices_text : PriceList → Part → List Configuration → List ℕ
choices_text prices part configs = some (facet_text prices Choice part) configs

-- all entries of a list, and their prices
abbrev pub price_cells : DesignSpace → Part → List ℕ
price_cells s part = td (entries_text s Choice part) ++ td (prices_text s part)

-- those that no row of the front has
abbrev pub unused_cell : DesignSpace → Part → List ℕ
unused_cell s part = td (choices_text s.prices part (unused s part))

abbrev pub list_cells : DesignSpace → Part → List ℕ
list_cells s part = price_cells s part ++ unused_cell s part

unfoldable pub list_row : DesignSpace → Part → List ℕ
list_row s part = table_row (name_of_list part) (list_cells s part)

abbrev pub list_names : List (List ℕ)
list_names = codes "Part" ∷ codes "Choices" ∷ codes "Price" ∷ codes "On no front row" ∷ []

unfoldable pub lists_table : DesignSpace → List ℕ
lists_table s =
    table_head (codes " class=\"x\"") (codes "Parts, and the price of each") list_names
    ++ (flat_map (list_row s) all_parts ++ table_end)
