-- What a visit's rounds repeat in their second half: the counts of a period, turned so that they read least.
use Rattle.std.specs.Prelude.{◌≡◌, ℕ, ◌+◌, ◌*◌, ◌/◌, ◌<◌, ◌≤◌, ◌==◌, nat_lt, Bool, false, ◌&&◌, ◌||◌, List, [], ◌∷◌}
use Rattle.std.specs.Prelude.{◌++◌}
use Rattle.std.specs.Prelude.{drop, length, slice_index, take}

-- from round ⌊n/2⌋ on, counted from 0
abbrev pub second_half : List ℕ → List ℕ
second_half cycles = drop (length cycles / 2) cycles

-- each round except the first p takes as much as the p-th before it
abbrev pub AreRepeated : ℕ → List ℕ → Type 0
AreRepeated p cycles = (k : ℕ) → k + p < length cycles → slice_index cycles (k + p) ≡ slice_index cycles k

-- a period: of at most 16 rounds, at most half of them
pub record IsPeriod (p : ℕ) (cycles : List ℕ) : Type 0 where
  pub some : 0 < p
  pub few : p ≤ 16
  pub twice : 2 * p ≤ length cycles
  pub are : AreRepeated p cycles

-- the list that begins at a place, and goes on with what is before it
abbrev pub turn : ℕ → List ℕ → List ℕ
turn k numbers = drop k numbers ++ take k numbers

-- one list reads less than another
abbrev pub reads_less : List ℕ → List ℕ → Bool
reads_less [] ys = false
reads_less (x ∷ xs) [] = false
reads_less (x ∷ xs) (y ∷ ys) = nat_lt x y || x == y && reads_less xs ys

-- no turn reads less than this one
abbrev pub IsLeastTurn : List ℕ → ℕ → Type 0
IsLeastTurn numbers k = (j : ℕ) → j < length numbers → reads_less (turn j numbers) (turn k numbers) ≡ false

-- the counts of the least period of these rounds
pub record IsPatternOf (cycles counts : List ℕ) : Type 0 where
  pub period : ℕ
  pub is : IsPeriod period cycles
  pub least : (q : ℕ) → q < period → IsPeriod q cycles → ⊥
  pub place : ℕ
  pub is_turned : IsLeastTurn (take period cycles) place
  pub counts_are : counts ≡ turn place (take period cycles)

-- a visit's rounds repeat these counts
abbrev pub IsPattern : List ℕ → List ℕ → Type 0
IsPattern cycles counts = IsPatternOf (second_half cycles) counts

-- they repeat nothing
abbrev pub HasNoPattern : List ℕ → Type 0
HasNoPattern cycles = (q : ℕ) → IsPeriod q (second_half cycles) → ⊥
