-- Sets of numbers below 128, a bit each.
use Rattle.std.specs.Prelude.{ℕ, zero, suc, ◌+◌, Bool, true, false, ◌≡◌, ◌≢◌, ◌<◌, ◌==◌, if◌then◌else◌}
use Rattle.std.specs.Int.{bit_at}

abbrev pub has : ℕ → ℕ → Bool
has set x = bit_at set x == 1

-- a set and one more number
pub record IsWith (set number new : ℕ) : Type 0 where
  pub same : has new number ≡ true
  pub others : (x : ℕ) → x ≢ number → has new x ≡ has set x

-- a set without one number
pub record IsWithout (set number new : ℕ) : Type 0 where
  pub same : has new number ≡ false
  pub others : (x : ℕ) → x < 128 → x ≢ number → has new x ≡ has set x

-- no two different numbers are in the set
abbrev pub IsSingle : ℕ → Type 0
IsSingle set = (a b : ℕ) → a < 128 → b < 128 → has set a ≡ true → has set b ≡ true → a ≡ b

-- the number of numbers below n that pass a test
unfoldable pub count_below : (ℕ → Bool) → ℕ → ℕ
count_below test zero = 0
count_below test (suc n) = (if test n then 1 else 0) + count_below test n

-- the number of members of a set
abbrev pub size_of : ℕ → ℕ
size_of set = count_below (has set) 128
