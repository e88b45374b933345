-- Contracts see a wheel as pairs: how many cycles ahead a number is due, and the number. They are grouped by cycle:
-- for each of the 64 cycles ahead, the set of the numbers that are due in it.
use Rattle.std.specs.Prelude.{ℕ, Bool, true, false, ◌≡◌, ◌<◌, ◌+◌, ◌==◌, nat_lt, ◌&&◌, ◌||◌, List}
use Rattle.std.specs.Prelude.{◌++◌, take, drop, Option, Some, None, slice_index, length}
use Rattle.tomex_bus.specs.Sets.{has}

-- a pair is one of them: the number is due that many cycles ahead
abbrev pub is_due : List ℕ → ℕ → ℕ → Bool
is_due pairs ahead number = nat_lt ahead 64 && has (slice_index pairs ahead) number

-- no pair
abbrev pub IsEmpty : List ℕ → Type 0
IsEmpty pairs = (ahead number : ℕ) → is_due pairs ahead number ≡ false

-- no pair of the number
abbrev pub Lacks : List ℕ → ℕ → Type 0
Lacks pairs number = (ahead : ℕ) → is_due pairs ahead number ≡ false

-- one more pair
abbrev pub HasPut : ℕ → ℕ → List ℕ → List ℕ → Type 0
HasPut ahead number old new = (a x : ℕ) → is_due new a x ≡ (is_due old a x || ((a == ahead) && (x == number)))

-- nothing is due sooner
abbrev pub IsClearTo : List ℕ → ℕ → Type 0
IsClearTo pairs ahead = (a x : ℕ) → a < ahead → is_due pairs a x ≡ false

-- the least number of cycles ahead; none if there is no pair
abbrev pub IsNext : List ℕ → Option ℕ → Type 0
IsNext pairs None = IsEmpty pairs
IsNext pairs (Some ahead) = ((number : ℕ) × (is_due pairs ahead number ≡ true)) × IsClearTo pairs ahead

-- each pair is due that many cycles sooner
abbrev pub HasPassed : ℕ → List ℕ → List ℕ → Type 0
HasPassed cycles old new = (a x : ℕ) → is_due new a x ≡ is_due old (a + cycles) x

-- the numbers that are due 0 cycles ahead
abbrev pub AreDue : List ℕ → ℕ → Type 0
AreDue pairs due = (x : ℕ) → has due x ≡ is_due pairs 0 x

-- they are taken out, and no others
abbrev pub HasGiven : List ℕ → List ℕ → Type 0
HasGiven old new = (a x : ℕ) → is_due new a x ≡ (nat_lt 0 a && is_due old a x)

-- a ring of sets, turned so that the one in the place `head` comes first
unfoldable pub ring_from : List ℕ → ℕ → List ℕ
ring_from sets head = drop head sets ++ take head sets

-- a ring of 64 sets, and the places at which its sets have members
pub record IsRing (sets : List ℕ) (filled head : ℕ) : Type 0 where
  pub count : length sets ≡ 64
  pub inside : head < 64
  pub low : (i : ℕ) → i < 128 → has filled i ≡ true → i < 64
  pub some : (i : ℕ) → i < 64 → has filled i ≡ true → (x : ℕ) × (has (slice_index sets i) x ≡ true)
  pub none : (i : ℕ) → i < 64 → has filled i ≡ false → (x : ℕ) → has (slice_index sets i) x ≡ false
