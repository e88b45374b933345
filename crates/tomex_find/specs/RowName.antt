-- A configuration of a study by its number, or by choices that only it has, joined by commas: `alu=2,mul=1`.
use Rattle.std.specs.Prelude.{◌≡◌, ◌≤◌, ◌==◌, ℕ, List, [], ◌∷◌, length, nat_lt, if◌then◌else◌, string_bytes}
use Rattle.std.specs.Prelude.{Option, Some, None}
use Rattle.std.specs.List.{slice_split}
use Rattle.tomex_study.specs.Study.{DesignSpace}
use Rattle.tomex_find.specs.Find.{IsWithoutRow, first_unhad, found_in}
use Rattle.tomex_find.specs.declared.row_name.RowError.{RowError}
use Rattle.tomex_find.specs.declared.row_name.RowError.TheVariants.{NoSuchChoice, NoSuchRow, SeveralRows, Memory}
use Rattle.tomex_find.specs.declared.row_name.RowName.{RowName}
use Rattle.tomex_find.specs.declared.row_name.RowName.TheVariants.{Number, Choices}

-- the parts between commas
abbrev pub choices_in : List ℕ → List (List ℕ)
choices_in word = slice_split (λ b. b == 44) word

-- the element of a list of one
abbrev pub only_one : List ℕ → Option ℕ
only_one (k ∷ []) = Some k
only_one _ = None

-- the row of a number, or the only row that has all choices
abbrev pub row_named : DesignSpace → RowName → Option ℕ
row_named s (Number n) = if nat_lt n (length s.rows) then Some n else None
row_named s (Choices word) = only_one (found_in s (choices_in word.now))

-- each choice is some row's, and this many rows, more than one, have all of them
pub record AreSeveral (s : DesignSpace) (words : List (List ℕ)) (n : ℕ) : Type 0 where
  pub had : first_unhad s words ≡ None
  pub found : length (found_in s words) ≡ n
  pub several : 2 ≤ n

-- why choices name no row; memory may run out at any time
abbrev pub HaveNoRow : DesignSpace → List (List ℕ) → RowError → Type 0
HaveNoRow s words (NoSuchChoice choice) = first_unhad s words ≡ Some (string_bytes choice)
HaveNoRow s words NoSuchRow = IsWithoutRow s words
HaveNoRow s words (SeveralRows n) = AreSeveral s words n
HaveNoRow s words Memory = Unit {0}

-- why a name is that of no row
abbrev pub IsNoRow : DesignSpace → RowName → RowError → Type 0
IsNoRow s (Number n) NoSuchRow = length s.rows ≤ n
IsNoRow s (Number n) error = ⊥
IsNoRow s (Choices word) error = HaveNoRow s (choices_in word.now) error
