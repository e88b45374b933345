-- The most that is shown in a table, and what isn't.
use Rattle.std.specs.Prelude.{ℕ, ◌-◌, nat_le, nat_lt, if◌then◌else◌, List, [], ◌∷◌, ◌++◌, codes, length, take}
use Rattle.std.specs.Fmt.{decimal}
use Rattle.std.specs.List.{flat_map}

-- the most lines of a table, or entries of a list, that are shown
abbrev pub most_lines : ℕ
most_lines = 64

-- the number of lines that aren't shown, and the command that prints them all
unfoldable pub rest_text : List ℕ → ℕ → List ℕ
rest_text command rest =
    codes "<p>" ++ (decimal rest ++ (codes " more: <code>tomex "
    ++ (command ++ codes "</code> has them all.</p>\n")))

unfoldable pub more : List ℕ → ℕ → List ℕ
more command lines = if nat_le lines most_lines then [] else rest_text command (lines - most_lines)

-- the texts of the items, with commas between them
abbrev pub with_commas : {X : Type 0} → (X → List ℕ) → List X → List ℕ
with_commas text [] = []
with_commas text (x ∷ xs) = text x ++ flat_map (λ y. codes ", " ++ text y) xs

-- the same for the first items, with a sign if there are more
unfoldable pub some : {X : Type 0} → (X → List ℕ) → List X → List ℕ
some text xs = with_commas text (take most_lines xs) ++ (if nat_lt most_lines (length xs) then codes " .." else [])
