-- Numbers for each word, without those that are zero.
use Rattle.std.specs.Prelude.{◌≡◌, ℕ, ◌<◌, List, [], ◌∷◌, length, slice_index, slice_set}
use Rattle.tomex_samples.specs.declared.counts.Entry.{Entry}

-- entries with some of the numbers lead to those that are left
abbrev pub TakesOut : List Entry → List ℕ → List ℕ → Type 0
TakesOut [] numbers left = left ≡ numbers
TakesOut (e ∷ es) numbers left = (e.word < length numbers) × (slice_index numbers e.word ≡ e.count)
    × TakesOut es (slice_set numbers e.word 0) left

-- all numbers are zero
abbrev pub AreZero : List ℕ → Type 0
AreZero numbers = (w : ℕ) → slice_index numbers w ≡ 0

-- the entries have all numbers that aren't zero
pub record IsSparse (entries : List Entry) (numbers : List ℕ) : Type 0 where
  pub left : List ℕ
  pub takes : TakesOut entries numbers left
  pub none : AreZero left

-- every word whose number isn't zero is among these words
pub record AreCovered (words numbers : List ℕ) : Type 0 where
  pub inside : (t : ℕ) → t < length words → slice_index words t < length numbers
  pub each : (w : ℕ) → 0 < slice_index numbers w → (t : ℕ) × (t < length words) × (slice_index words t ≡ w)
