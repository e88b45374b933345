-- Sums and choices over the numbers below another.
use Rattle.std.specs.Prelude.{ℕ, zero, suc, ◌+◌, ◌-◌, ◌&&◌, Bool, true, if◌then◌else◌, Option, Some, None, List}
use Rattle.std.specs.List.{range_with_len}

-- the numbers below n, in order
abbrev pub below : ℕ → List ℕ
below n = range_with_len 0 n

-- by how much two numbers differ
abbrev pub difference : ℕ → ℕ → ℕ
difference a b = (a - b) + (b - a)

-- the sum of a value of each number below n
abbrev pub sum_below : (ℕ → ℕ) → ℕ → ℕ
sum_below value zero = 0
sum_below value (suc n) = sum_below value n + value n

-- a number beats the best one so far; the first has nothing to beat
abbrev pub beats : (ℕ → ℕ → Bool) → ℕ → Option ℕ → Bool
beats better n None = true
beats better n (Some m) = better n m

-- of the numbers below n that pass a test the best; of equals the first
abbrev pub best_below : (ℕ → Bool) → (ℕ → ℕ → Bool) → ℕ → Option ℕ
best_below test better zero = None
best_below test better (suc n) =
    if test n && beats better n (best_below test better n) then Some n else best_below test better n
