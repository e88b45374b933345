-- What the code computes of distances.
use Rattle.std.specs.Prelude.{◌≡◌, ℕ, ◌+◌, ◌*◌, ◌<◌, min, List, length, slice_index}
use Rattle.tomex_samples.specs.Numbers.{sum_below}

-- what some counts, times a factor, and others have in common
abbrev pub common : ℕ → List ℕ → List ℕ → ℕ
common times xs ys = sum_below (λ w. min (times * slice_index xs w) (slice_index ys w)) (length ys)

-- counts are added to sums
abbrev pub AreAdded : List ℕ → List ℕ → List ℕ → Type 0
AreAdded counts old new = (w : ℕ) → w < length old → slice_index new w ≡ slice_index old w + slice_index counts w
