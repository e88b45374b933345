-- Tables: a line of names, and after it lines of texts, all aligned to the right.
use Rattle.std.specs.Prelude.{ℕ, ◌<◌, max, List, [], ◌∷◌, ◌++◌, codes, length, slice_index_or}
use Rattle.std.specs.List.{flat_map, range_with_len}
use Rattle.tomex_layout.specs.Aligned.{right_aligned}
use Rattle.tomex_layout.specs.declared.column.Line.{Line}
use Rattle.tomex_layout.specs.declared.column.Line.TheVariants.{Names, Entries}

-- a column: its name, and its entry in each line
pub record TableColumn : Type 0 where
  pub name : List ℕ
  pub entries : List (List ℕ)

abbrev pub longest : List (List ℕ) → ℕ
longest [] = 0
longest (text ∷ texts) = max (length text) (longest texts)

-- a column is as wide as its widest entry, its name included
unfoldable pub width_of : TableColumn → ℕ
width_of c = max (length c.name) (longest c.entries)

-- a column's text in a line
abbrev pub entry_in : Line → TableColumn → List ℕ
entry_in Names c = c.name
entry_in (Entries k) c = slice_index_or c.entries k []

unfoldable pub aligned_in : Line → TableColumn → List ℕ
aligned_in line c = right_aligned (width_of c) (entry_in line c)

-- an entry after two spaces
unfoldable pub spaced_in : Line → TableColumn → List ℕ
spaced_in line c = codes "  " ++ aligned_in line c

-- a line: two spaces between columns, none at its end
unfoldable pub table_line : List TableColumn → Line → List ℕ
table_line [] line = codes "\n"
table_line (c ∷ columns) line = aligned_in line c ++ (flat_map (spaced_in line) columns ++ codes "\n")

-- the line of the k-th entries
abbrev pub entries_line : List TableColumn → ℕ → List ℕ
entries_line columns k = table_line columns (Entries k)

-- the names, and then this number of lines of entries
unfoldable pub table_of : ℕ → List TableColumn → List ℕ
table_of count columns = table_line columns Names ++ flat_map (entries_line columns) (range_with_len 0 count)

-- one more entry
abbrev pub with_entry : TableColumn → List ℕ → TableColumn
with_entry c text = record { name = c.name; entries = c.entries ++ (text ∷ []) }

-- the column has a text in that line
abbrev pub has_line : Line → TableColumn → Type 0
has_line Names c = Unit {0}
has_line (Entries k) c = k < length c.entries
