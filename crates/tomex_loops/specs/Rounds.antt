-- What is counted of the rounds of a loop, given the cycles of each.
use Rattle.std.specs.Prelude.{◌≡◌, ℕ, ◌-◌, ◌/◌, ◌<◌, ◌≤◌, ◌==◌, nat_le, nat_lt, List, count_by, length}
use Rattle.tomex_loops.specs.declared.counts.Counts.{Counts}

-- with these numbers in order, one stands at a place, counted from 0
pub record IsAtPlace (numbers : List ℕ) (place n : ℕ) : Type 0 where
  pub below : count_by (λ x. nat_lt x n) numbers ≤ place
  pub here : place < count_by (λ x. nat_le x n) numbers

-- how many rounds take n cycles
abbrev pub rounds_of : List ℕ → ℕ → ℕ
rounds_of cycles n = count_by (λ x. x == n) cycles

-- The least, the most, and of an even number the lower median; and the count that most rounds have, the least of
-- several, with the number of rounds that have it.
pub record AreCounts (cycles : List ℕ) (c : Counts) : Type 0 where
  pub least : IsAtPlace cycles 0 c.least
  pub median : IsAtPlace cycles ((length cycles - 1) / 2) c.median
  pub most : IsAtPlace cycles (length cycles - 1) c.most
  pub alike : c.alike ≡ rounds_of cycles c.usual
  pub usual : (n : ℕ) → rounds_of cycles n ≤ c.alike
  pub first : (n : ℕ) → n < c.usual → rounds_of cycles n < c.alike
