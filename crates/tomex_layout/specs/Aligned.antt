-- Texts that are aligned, to the right or to the left.
use Rattle.std.specs.Prelude.{ℕ, ◌-◌, List, ◌++◌, codes, length}
use Rattle.std.specs.List.{repeat}

-- a text, padded on the left with spaces to the width
abbrev pub right_aligned : ℕ → List ℕ → List ℕ
right_aligned width text = repeat (width - length text) (codes " ") ++ text

-- a text, padded on the right with spaces to the width
abbrev pub left_aligned : ℕ → List ℕ → List ℕ
left_aligned width text = text ++ repeat (width - length text) (codes " ")
