-- Columns of a table that has a line `now` and then a line for each of some rows.
use Rattle.std.specs.Prelude.{ℕ, if◌then◌else◌, nat_lt, List, ◌∷◌, [], ◌++◌, codes, map}
use Rattle.std.specs.Fmt.{decimal}
use Rattle.tomex_pareto.specs.declared.front_row.FrontRow.{FrontRow}
use Rattle.tomex_layout.specs.Table.{TableColumn}
use Rattle.tomex_layout.specs.declared.headings.Heading.{Heading}
use Rattle.tomex_layout.specs.declared.headings.Heading.TheVariants.{Row, Cost, Cycles}

-- a column: its name, its text in the line `now`, and its text for each row
abbrev pub column_of : List ℕ → List ℕ → (FrontRow → List ℕ) → List FrontRow → TableColumn
column_of name now text rows = record { name = name; entries = now ∷ map text rows }

abbrev pub name_of_heading : Heading → List ℕ
name_of_heading Row = codes "row"
name_of_heading Cost = codes "cost"
name_of_heading Cycles = codes "cycles"

-- the line `now` is called so where rows have their numbers
abbrev pub now_under : Heading → List ℕ
now_under Row = codes "now"
now_under heading = codes "-"

abbrev pub number_under : Heading → FrontRow → ℕ
number_under Row r = r.row
number_under Cost r = r.cost
number_under Cycles r = r.cycles

unfoldable pub heading_column : List FrontRow → Heading → TableColumn
heading_column rows heading =
    column_of (name_of_heading heading) (now_under heading) (λ r. decimal (number_under heading r)) rows

-- the rows' numbers, costs and cycles
abbrev pub row_columns : List FrontRow → List TableColumn
row_columns rows = map (heading_column rows) (Row ∷ Cost ∷ Cycles ∷ [])

-- a percentage by which amounts may be wrong: 100 is shown as any, since none is below 0
abbrev pub percent_text : ℕ → List ℕ
percent_text percent = if nat_lt percent 100 then decimal percent ++ codes "%" else codes "any"
