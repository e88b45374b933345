-- The lengths of columns.
use Rattle.std.proofs.Common.{◌≡◌, ap, suc, List, [], ◌∷◌, ◌++◌, length, map}
use Rattle.std.specs.Prelude.{All}
use Rattle.std.proofs.lemmas.List.{length-map}
use Rattle.std.proofs.lemmas.List.Elements.{All-append, All-cons}
use Rattle.tomex_pareto.specs.declared.front_row.FrontRow.{FrontRow}
use Rattle.tomex_layout.specs.Table.{TableColumn}
use Rattle.tomex_layout.proofs.Each.{all_map}
use Rattle.tomex_layout.specs.declared.headings.Heading.{Heading}
use Rattle.tomex_layout.specs.declared.headings.Heading.TheVariants.{Row, Cost, Cycles}
use Rattle.tomex_layout.specs.RowColumns.{heading_column, row_columns}

-- an entry for each row, and one before them
abbrev pub HasEntries : List FrontRow → TableColumn → Type 0
HasEntries rows c = length c.entries ≡ suc (length rows)

heading_long : (rows : List FrontRow) (heading : Heading) → HasEntries rows (heading_column rows heading)
unfolding heading_column
heading_long rows heading = ap suc (length-map rows _)

-- the rows' own columns, one more, and one for each of some items
pub columns_long : {X : Type 0} (rows : List FrontRow) (one : TableColumn) (more : X → TableColumn) (items : List X)
    → HasEntries rows one → ((x : X) → HasEntries rows (more x))
    → All (HasEntries rows) (row_columns rows ++ one ∷ map more items)
columns_long rows one more items first each =
    let P = HasEntries rows in
    All-append P (row_columns rows) (one ∷ map more items)
    (all_map P (heading_column rows) (Row ∷ Cost ∷ Cycles ∷ []) (heading_long rows))
    (All-cons P one (map more items) first (all_map P more items each))
