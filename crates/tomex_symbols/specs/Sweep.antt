-- What a sweep over addresses in ascending order knows about the symbols, which it visits in theirs.
use Rattle.std.specs.Prelude.{◌≡◌, ℕ, ◌+◌, ◌<◌, ◌≤◌, List, [], ◌∷◌, length, slice_index_or, take, All}
use Rattle.std.specs.Prelude.{Bool, nat_eq, if◌then◌else◌, Option, Some, None}
use Rattle.tomex_symbols.specs.declared.symbol.Symbol.{Symbol}
use Rattle.tomex_symbols.specs.Functions.{holds, or_else, rank_of}

-- a is before b, or is equal to it: of symbols at one address, the one to be chosen is the last
pub record Precedes (a b : Symbol) : Type 0 where
  pub address : a.address ≤ b.address
  pub rank : a.address ≡ b.address → rank_of b ≤ rank_of a
  pub number : a.address ≡ b.address → rank_of a ≡ rank_of b → b.number ≤ a.number

abbrev pub InOrder : List Symbol → Type 0
InOrder ss = (k : ℕ) (d : Symbol) → k + 1 < length ss → Precedes (slice_index_or ss k d) (slice_index_or ss (k + 1) d)

-- the last symbol that passes a test
abbrev pub last_of : (Symbol → Bool) → List Symbol → Option Symbol
last_of p [] = None
last_of p (s ∷ ss) = or_else (last_of p ss) (if p s then Some s else None)

abbrev pub is_unsized : Symbol → Bool
is_unsized s = nat_eq s.size 0

abbrev pub last_address : List Symbol → ℕ
last_address [] = 0
last_address (s ∷ []) = s.address
last_address (s ∷ t ∷ ss) = last_address (t ∷ ss)

abbrev pub if_at : ℕ → Option Symbol → Option Symbol
if_at address None = None
if_at address (Some s) = if nat_eq s.address address then Some s else None

-- what a sweep knows at an address: how many symbols begin up to it; from there on the nested ones hold what these
-- hold; the last one without a size, and where the last one begins
pub record IsSwept (sorted : List Symbol) (begun : ℕ) (nested : List Symbol) (label : Option Symbol) (latest pc : ℕ)
    : Type 0 where
  pub within : begun ≤ length sorted
  pub begins : All (λ s. s.address ≤ pc) (take begun sorted)
  pub nested_begins : All (λ s. s.address ≤ pc) nested
  pub innermost : (q : ℕ) → pc ≤ q → last_of (holds q) nested ≡ last_of (holds q) (take begun sorted)
  pub last_unsized : label ≡ last_of is_unsized (take begun sorted)
  pub last_begins : latest ≡ last_address (take begun sorted)
