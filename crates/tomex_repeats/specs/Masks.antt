-- The code's own words: a number whose bits say which accesses a step conflicts with, and the first block of each
-- number.
use Rattle.std.specs.Prelude.{ℕ, ◌+◌, ◌*◌, ◌^◌, ◌<◌, ◌≤◌, ◌≡◌, ◌⊎◌, Bool, List, [], ◌∷◌, ◌++◌, Option, IfSome, All}
use Rattle.std.specs.Prelude.{length, map, slice_index, slice_index_or, take}
use Rattle.std.specs.List.{filter}
use Rattle.tomex_timing.specs.Ahead.{one}
use Rattle.tomex_timing.specs.declared.recent.Facts.{Facts}
use Rattle.tomex_repeats.specs.declared.blocks.Block.{Block}
use Rattle.tomex_repeats.specs.declared.numbers.Found.{Found}
use Rattle.tomex_repeats.specs.declared.numbers.Found.TheVariants.{Known, Free}
use Rattle.tomex_repeats.specs.Blocks.{accesses_before, do_conflict, is_access, window_at, AreSameBlocks}

-- a bit for each test, the first the lowest
abbrev pub number_of : List Bool → ℕ
number_of [] = 0
number_of (b ∷ tests) = one b + 2 * number_of tests

-- which of these accesses, the youngest first, a step conflicts with
abbrev pub mask_of : List Facts → Facts → ℕ
mask_of accesses f = number_of (map (λ a. do_conflict a f) accesses)

-- which of the accesses in its window the step at place p conflicts with
abbrev pub mask_at : List Facts → (first p : ℕ) → Facts → ℕ
mask_at facts first p f = mask_of (take (window_at facts first p) (accesses_before facts p)) f

-- the masks of the steps from a place up to another one
abbrev pub AreMasks : List Facts → List ℕ → (first end : ℕ) → Type 0
AreMasks facts masks first end = (p : ℕ) (z : Facts) → first ≤ p → p < end
    → slice_index masks p ≡ mask_at facts first p (slice_index_or facts p z)

-- the facts of the steps at these places
abbrev pub facts_at : List Facts → List ℕ → Facts → List Facts
facts_at facts places z = map (λ p. slice_index_or facts p z) places

-- the accesses before a place, by their places
pub record ArePlaces (facts : List Facts) (places : List ℕ) (p : ℕ) : Type 0 where
  pub below : All (λ k. k < p) places
  pub are : (z : Facts) → facts_at facts places z ≡ filter is_access (take p facts)

-- a block of the run, whose masks are known
pub record IsNoted (facts : List Facts) (masks : List ℕ) (b : Block) : Type 0 where
  pub some : b.first < b.end
  pub few : b.end ≤ b.first + 60
  pub within : b.end ≤ length facts
  pub known : b.end ≤ length masks
  pub are : AreMasks facts masks b.first b.end

-- a block is the same as the first one with a number
abbrev pub IsNumbered : List Facts → List Block → ℕ → Block → Type 0
IsNumbered facts firsts n b = (n < length firsts) × ((z : Block) → AreSameBlocks facts (slice_index_or firsts n z) b)

-- each number in the table is one of a first block
abbrev pub IsTable : List (Option ℕ) → List Block → Type 0
IsTable slots firsts = All (λ s. IfSome s (λ n. n < length firsts)) slots

-- a block's number is found, or a free place for a new one
abbrev pub IsFound : List Facts → List (Option ℕ) → List Block → Block → Found → Type 0
IsFound facts slots firsts b (Known n) = IsNumbered facts firsts n b
IsFound facts slots firsts b (Free place) = place < length slots

-- the first blocks of all numbers, in the order of these, and the table in which they are looked for
pub record AreFirsts
    (facts : List Facts) (masks : List ℕ) (slots : List (Option ℕ)) (firsts : List Block) : Type 0 where
  pub some : 0 < length slots
  pub few : length slots < 2 ^ 32
  pub table : IsTable slots firsts
  pub noted : All (IsNoted facts masks) firsts

-- the first blocks after one more block: the same, or with this one, which has the next number
abbrev pub AreFirstsAfter : Block → (old new : List Block) → Type 0
AreFirstsAfter b old new = (new ≡ old) ⊎ ((new ≡ old ++ (b ∷ [])) × (b.number ≡ length old))
