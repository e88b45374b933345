-- What laws say of the choices by which configurations are found and named.
use Rattle.std.specs.Prelude.{◌≡◌, ℕ, List, [], ◌++◌, codes, map, slice_index_or, Some}
use Rattle.std.specs.Borrow.{Bor}
use Rattle.std.specs.Fmt.{decimal}
use Rattle.std.specs.List.{join_with_byte}
use Rattle.tomex_study.specs.Study.{DesignSpace}
use Rattle.tomex_layout.specs.Table.{TableColumn}
use Rattle.tomex_find.specs.Find.{columns_of}
use Rattle.tomex_find.specs.RowName.{row_named}
use Rattle.tomex_find.specs.declared.row_name.RowName.TheVariants.{Choices}

-- these choices, joined by commas, are a name of the row k, and so of no other
abbrev pub Name : DesignSpace → List (List ℕ) → ℕ → Type 0
Name s choices k = (word : Bor (List ℕ)) → word.now ≡ join_with_byte 44 choices → row_named s (Choices word) ≡ Some k

-- the choice of a row's number
abbrev pub number_choice : ℕ → List ℕ
number_choice k = codes "row=" ++ decimal k

-- a column's name, `=`, and its entry in the line i
abbrev pub choice_in : ℕ → TableColumn → List ℕ
choice_in i c = c.name ++ (codes "=" ++ slice_index_or c.entries i [])

-- the choices that the line i of the table of some rows shows
abbrev pub choices_of_line : DesignSpace → List ℕ → ℕ → List (List ℕ)
choices_of_line s rows i = map (choice_in i) (columns_of s rows)
