-- Tables: their heads, and their rows.
-- Source: the HTML Living Standard, 4.9 (tables).
use Rattle.std.specs.Prelude.{ℕ, List, ◌++◌, codes}
use Rattle.std.specs.Fmt.{decimal}
use Rattle.std.specs.List.{flat_map}
use Rattle.tomex_html.specs.Html.{td}

-- a column's name
unfoldable pub column_head : List ℕ → List ℕ
column_head name = codes "<th scope=\"col\">" ++ (name ++ codes "</th>")

-- a table up to the names of its columns
unfoldable pub table_start : List ℕ → List ℕ → List ℕ
table_start attributes caption =
    codes "<div class=\"w\"><table"
    ++ (attributes ++ (codes ">\n<caption>" ++ (caption ++ codes "</caption>\n<thead><tr>")))

unfoldable pub head_end : List ℕ
head_end = codes "</tr></thead>\n<tbody>\n"

-- a table up to its rows
unfoldable pub table_head : List ℕ → List ℕ → List (List ℕ) → List ℕ
table_head attributes caption names = table_start attributes caption ++ (flat_map column_head names ++ head_end)

-- a row of a table: what it is of, and its cells
unfoldable pub row_start : List ℕ → List ℕ
row_start head = codes "<tr><th scope=\"row\">" ++ (head ++ codes "</th>")

unfoldable pub table_row : List ℕ → List ℕ → List ℕ
table_row head cells = row_start head ++ (cells ++ codes "</tr>\n")

unfoldable pub number_cell : ℕ → List ℕ
number_cell n = td (decimal n)
