-- Differences of numbers, as texts.
use Rattle.std.specs.Prelude.{ℕ, ◌+◌, ◌-◌, ◌*◌, ◌/◌, ◌%◌, ◌==◌, nat_lt, if◌then◌else◌, List, ◌++◌, codes}
use Rattle.std.specs.Fmt.{decimal}

abbrev pub distance : ℕ → ℕ → ℕ
distance a b = (a - b) + (b - a)

-- the sign of b - a, if the two differ
abbrev pub sign_of : ℕ → ℕ → List ℕ
sign_of a b = if nat_lt a b then codes "+" else codes "-"

-- b - a as a text: `+6`, `-9426`, `0`
unfoldable pub signed_difference : ℕ → ℕ → List ℕ
signed_difference a b = if a == b then codes "0" else sign_of a b ++ decimal (distance a b)

-- a number of tenths, with one digit after the point
unfoldable pub tenths : ℕ → List ℕ
tenths n = decimal (n / 10) ++ (codes "." ++ decimal (n % 10))

-- the same in percent of a, in tenths that are rounded towards 0: `-16.1`, `-0.0`, `0`
unfoldable pub percent : ℕ → ℕ → List ℕ
percent a b = if a == b then codes "0" else sign_of a b ++ tenths (distance a b * 1000 / a)
