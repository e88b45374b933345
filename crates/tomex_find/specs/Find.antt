-- Which configurations of a study have some choices, and their table. A choice is written as it is printed: a name, `=`
-- and a number.
use Rattle.std.specs.Prelude.{◌≡◌, ◌≢◌, ℕ, Bool, not, ◌||◌, if◌then◌else◌, List, [], ◌∷◌, ◌++◌, codes, length, map}
use Rattle.std.specs.Prelude.{Option, Some, None, slice_index_or, string_bytes}
use Rattle.std.specs.Fmt.{decimal}
use Rattle.std.specs.List.{filter, find, flat_map, list_all, list_any, range_with_len}
use Rattle.std.specs.Str.{bytes_eq}
use Rattle.tomex_study.specs.Study.{DesignSpace, config_at}
use Rattle.tomex_config.specs.Settings.{all_settings, differs, setting_of}
use Rattle.tomex_layout.specs.Lists.{name_of_setting}
use Rattle.tomex_config.specs.declared.setting.Setting.{Setting}
use Rattle.tomex_layout.specs.Table.{TableColumn, table_of}
use Rattle.tomex_find.specs.declared.finding.FindError.{FindError}
use Rattle.tomex_find.specs.declared.finding.FindError.TheVariants.{NoSuchChoice, NoSuchRow, Memory}
use Rattle.tomex_find.specs.declared.property.Property.{Property}
use Rattle.tomex_find.specs.declared.property.Property.TheVariants.{Row, Cost, Setting as OfSetting}

abbrev pub name_of : Property → List ℕ
name_of Row = codes "row"
name_of Cost = codes "cost"
name_of (OfSetting setting) = name_of_setting setting

-- the value of a property for the row k
abbrev pub value_of : DesignSpace → ℕ → Property → ℕ
value_of s k Row = k
value_of s k Cost = slice_index_or s.costs k 0
value_of s k (OfSetting setting) = setting_of (config_at s k) setting

-- a row's choice of a property, as it is written
abbrev pub choice_text : DesignSpace → ℕ → Property → List ℕ
choice_text s k p = name_of p ++ (codes "=" ++ decimal (value_of s k p))

-- a word is a row's choice of a property
abbrev pub is_choice : DesignSpace → ℕ → List ℕ → Property → Bool
is_choice s k word p = bytes_eq (choice_text s k p) word

-- or of one of all settings
abbrev pub is_of_setting : DesignSpace → ℕ → List ℕ → Bool
is_of_setting s k word = list_any (λ setting. is_choice s k word (OfSetting setting)) all_settings

-- the row k has a choice: it is of its number, its cost or a setting
unfoldable pub has_choice : DesignSpace → ℕ → List ℕ → Bool
has_choice s k word = is_choice s k word Row || (is_choice s k word Cost || is_of_setting s k word)

-- it has all of them
unfoldable pub has_all : DesignSpace → List (List ℕ) → ℕ → Bool
has_all s words k = list_all (has_choice s k) words

abbrev pub row_numbers : DesignSpace → List ℕ
row_numbers s = range_with_len 0 (length s.rows)

-- some row has a choice
unfoldable pub is_had : DesignSpace → List ℕ → Bool
is_had s word = list_any (λ k. has_choice s k word) (row_numbers s)

-- the rows that have all choices, by number
unfoldable pub found_in : DesignSpace → List (List ℕ) → List ℕ
found_in s words = filter (has_all s words) (row_numbers s)

unfoldable pub column_of : DesignSpace → List ℕ → Property → TableColumn
column_of s rows p = record { name = name_of p; entries = map (λ k. decimal (value_of s k p)) rows }

-- the column of a setting, if rows of the study differ in it
unfoldable pub setting_columns : DesignSpace → List ℕ → Setting → List TableColumn
setting_columns s rows setting = if differs s.rows setting then column_of s rows (OfSetting setting) ∷ [] else []

-- the rows' numbers, their costs, and those settings
abbrev pub columns_of : DesignSpace → List ℕ → List TableColumn
columns_of s rows = column_of s rows Row ∷ column_of s rows Cost ∷ flat_map (setting_columns s rows) all_settings

-- the table of some rows
unfoldable pub rows_table_of : DesignSpace → List ℕ → List ℕ
rows_table_of s rows = table_of (length rows) (columns_of s rows)

-- the first choice that no row has
abbrev pub first_unhad : DesignSpace → List (List ℕ) → Option (List ℕ)
first_unhad s words = find (λ word. not (is_had s word)) words

-- each choice is some row's, some row has all, and the text is the table of those rows
pub record IsFound (s : DesignSpace) (words : List (List ℕ)) (text : List ℕ) : Type 0 where
  pub had : first_unhad s words ≡ None
  pub found : found_in s words ≢ []
  pub table : text ≡ rows_table_of s (found_in s words)

-- each choice is some row's, and no row has all
pub record IsWithoutRow (s : DesignSpace) (words : List (List ℕ)) : Type 0 where
  pub had : first_unhad s words ≡ None
  pub none : found_in s words ≡ []

-- why there is no table; memory may run out at any time
abbrev pub IsNotFound : DesignSpace → List (List ℕ) → FindError → Type 0
IsNotFound s words (NoSuchChoice choice) = first_unhad s words ≡ Some (string_bytes choice)
IsNotFound s words NoSuchRow = IsWithoutRow s words
IsNotFound s words Memory = Unit {0}
