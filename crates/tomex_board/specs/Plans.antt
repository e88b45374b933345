-- The costs and cycles that a board can be made for.
use Rattle.std.specs.Prelude.{◌≡◌, ℕ, ◌<◌, ◌≤◌, ◌^◌, List, All, length}

-- the most rows that a board has
abbrev pub most_rows : ℕ
most_rows = 16384

-- a row at least, and for each its cycles to its end, below 2^38
abbrev pub IsPlan : List ℕ → List ℕ → Type 0
IsPlan costs cycles =
    (1 ≤ length costs) × (length costs ≤ most_rows) × (length cycles ≡ length costs) × All (λ c. c < 2 ^ 38) cycles
