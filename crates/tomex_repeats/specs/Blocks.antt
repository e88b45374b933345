-- The blocks of a run's steps, and when two of them are the same to the recurrence: their steps are, except for the
-- bytes that they touch, and conflict alike.
use Rattle.std.specs.Prelude.{ℕ, ◌+◌, ◌-◌, ◌<◌, ◌≤◌, ◌≡◌, ◌⊎◌, Bool, true, false, ◌&&◌, ◌||◌, List, [], ◌∷◌, None}
use Rattle.std.specs.Prelude.{count_by, is_some, length, map, reverse, slice_index_or, slice_range, take, All}
use Rattle.std.specs.List.{Contains, filter}
use Rattle.tomex_rvexec.specs.Steps.{shares_byte}
use Rattle.tomex_timing.specs.declared.recent.Facts.{Facts}
use Rattle.tomex_repeats.specs.declared.blocks.Block.{Block}

-- Two steps are the same except for the bytes that they touch. Both touch some, or neither does.
pub record AreLike (f g : Facts) : Type 0 where
  pub rest : record f { bytes = None } ≡ record g { bytes = None }
  pub touch : is_some f.bytes ≡ is_some g.bytes

-- loads and stores
abbrev pub is_access : Facts → Bool
is_access f = is_some f.bytes

-- the accesses before a place, the youngest first
abbrev pub accesses_before : List Facts → ℕ → List Facts
accesses_before facts p = reverse (filter is_access (take p facts))

-- an access and a later step share a byte, and one of the two is a store
abbrev pub do_conflict : Facts → Facts → Bool
do_conflict a f = shares_byte a.bytes f.bytes && (a.is_store || f.is_store)

-- a step at a place conflicts with the access that is i accesses back, if there is one
abbrev pub conflicts_back : List Facts → ℕ → Facts → ℕ → Bool
conflicts_back facts p f i = slice_index_or (map (λ a. do_conflict a f) (accesses_before facts p)) i false

-- with how many accesses a step of a block is compared: with four before the block, and with those since
abbrev pub window_at : List Facts → (first p : ℕ) → ℕ
window_at facts first p = 4 + count_by is_access (slice_range facts first p)

-- The n steps from place p on are the same as those from place q on, and conflict alike.
pub record AreSame (facts : List Facts) (p q n : ℕ) : Type 0 where
  pub steps : (k : ℕ) (z : Facts) → k < n → AreLike (slice_index_or facts (p + k) z) (slice_index_or facts (q + k) z)
  pub conflicts : (k i : ℕ) (z : Facts) → k < n → i < window_at facts p (p + k)
      → conflicts_back facts (p + k) (slice_index_or facts (p + k) z) i
      ≡ conflicts_back facts (q + k) (slice_index_or facts (q + k) z) i

-- the same of two blocks, which are as long
pub record AreSameBlocks (facts : List Facts) (a b : Block) : Type 0 where
  pub long : a.end - a.first ≡ b.end - b.first
  pub same : AreSame facts a.first b.first (a.end - a.first)

-- The steps from a place up to another one end with the first conditional branch or JALR, after 60 steps, or at the
-- run's end.
pub record EndsABlock (facts : List Facts) (first end : ℕ) : Type 0 where
  pub before : (p : ℕ) (z : Facts) → first ≤ p → p + 1 < end → (slice_index_or facts p z).is_branch ≡ false
  pub last : ((z : Facts) → (slice_index_or facts (end - 1) z).is_branch ≡ true)
      ⊎ ((end ≡ first + 60) ⊎ (end ≡ length facts))

-- Blocks stand one after another from a place to another one. None is empty, or longer than 60 steps.
abbrev pub AreInARow : ℕ → List Block → ℕ → Type 0
AreInARow from [] to = from ≡ to
AreInARow from (b ∷ blocks) to =
    (b.first ≡ from) × (b.first < b.end) × (b.end ≤ b.first + 60) × AreInARow b.end blocks to

-- blocks, and how many different ones there are
pub record Blocks : Type 0 where
  pub blocks : List Block
  pub different : ℕ

-- They cover a run's steps, each ends as early as it has to, their numbers are those below the number of different
-- ones, and blocks of one number are the same.
pub record AreBlocks (facts : List Facts) (run : Blocks) : Type 0 where
  pub row : AreInARow 0 run.blocks (length facts)
  pub ends : All (λ b. EndsABlock facts b.first b.end) run.blocks
  pub numbers : All (λ b. b.number < run.different) run.blocks
  pub used : (n : ℕ) → n < run.different → Contains (map (λ b. b.number) run.blocks) n
  pub same : All (λ a. All (λ b. a.number ≡ b.number → AreSameBlocks facts a b) run.blocks) run.blocks
