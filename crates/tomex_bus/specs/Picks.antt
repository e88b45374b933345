-- Which of those that are ready are served: the oldest.
use Rattle.std.specs.Prelude.{ℕ, Bool, true, false, ◌≡◌, ◌<◌, ◌≤◌, ◌==◌, ◌||◌, min, List, [], ◌∷◌, ⊤, slice_index}
use Rattle.tomex_bus.specs.Sets.{has, size_of}

-- a number is in a list
abbrev pub is_listed : List ℕ → ℕ → Bool
is_listed [] x = false
is_listed (y ∷ ys) x = (y == x) || is_listed ys x

-- one is older than each of a list: it issued before them
abbrev pub IsOlder : List ℕ → ℕ → List ℕ → Type 0
IsOlder issue_numbers x ys = (y : ℕ) → is_listed ys y ≡ true → slice_index issue_numbers x < slice_index issue_numbers y

-- the oldest comes first
abbrev pub Rises : List ℕ → List ℕ → Type 0
Rises issue_numbers [] = ⊤
Rises issue_numbers (x ∷ xs) = IsOlder issue_numbers x xs × Rises issue_numbers xs

-- the members of a set, in issue order
pub record IsInIssueOrder (set : ℕ) (issue_numbers xs : List ℕ) : Type 0 where
  pub members : (x : ℕ) → x < 128 → has set x ≡ is_listed xs x
  pub low : (x : ℕ) → is_listed xs x ≡ true → x < 128
  pub rises : Rises issue_numbers xs

-- The n oldest of a set, all of it if there are no more: no member that is left issued before one that is picked.
pub record IsPicked (set : ℕ) (issue_numbers : List ℕ) (n picked : ℕ) : Type 0 where
  pub inside : (x : ℕ) → x < 128 → has picked x ≡ true → has set x ≡ true
  pub oldest : (x y : ℕ) → x < 128 → y < 128 → has picked x ≡ true → has set y ≡ true → has picked y ≡ false
      → slice_index issue_numbers x ≤ slice_index issue_numbers y
  pub count : size_of picked ≡ min n (size_of set)
