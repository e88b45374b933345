-- The visit of a loop that has the most rounds.
use Rattle.std.specs.Prelude.{ℕ, ◌≡◌, ◌<◌, ◌≤◌, nat_lt, Bool, true, List, Option, Some, None, length, slice_index}

-- a visit of loop n that has the most rounds of those, and is the first of several
pub record IsLongestVisit (n : ℕ) (loops rounds : List ℕ) (v : ℕ) : Type 0 where
  pub before : v < length loops
  pub is : slice_index loops v ≡ n
  pub most : (u : ℕ) → u < length loops → slice_index loops u ≡ n → slice_index rounds u ≤ slice_index rounds v
  pub first : (u : ℕ) → u < v → slice_index loops u ≡ n → slice_index rounds u < slice_index rounds v

-- no visit is of loop n
abbrev pub HasNoVisit : ℕ → List ℕ → Type 0
HasNoVisit n loops = (v : ℕ) → v < length loops → slice_index loops v ≡ n → ⊥

abbrev pub IsLongest : ℕ → List ℕ → List ℕ → Option ℕ → Type 0
IsLongest n loops rounds None = HasNoVisit n loops
IsLongest n loops rounds (Some v) = IsLongestVisit n loops rounds v

-- a visit has more rounds than another, if there is another
abbrev pub is_longer : List ℕ → ℕ → Option ℕ → Bool
is_longer rounds v None = true
is_longer rounds v (Some u) = nat_lt (slice_index rounds u) (slice_index rounds v)
