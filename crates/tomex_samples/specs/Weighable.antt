-- Parts that can be weighed.
use Rattle.std.specs.Prelude.{◌≡◌, ◌≤◌, ℕ, List, All, Any, Option, Some, None, slice_index_or}
use Rattle.tomex_cut.specs.Part.{most_part}
use Rattle.tomex_samples.specs.declared.weights.Share.{Share}
use Rattle.tomex_samples.specs.Stretches.{most_stretches}

-- a part has some steps, no more than a part may have, and stands for no more stretches than a run has
pub record IsShare (s : Share) : Type 0 where
  pub some : 1 ≤ s.steps
  pub few : s.steps ≤ most_part
  pub not_many : s.stretches ≤ most_stretches

-- one of the parts stands for some stretches
pub record AreShares (shares : List Share) : Type 0 where
  pub each : All IsShare shares
  pub some : Any (λ s. 1 ≤ s.stretches) shares

-- a part that has an end has some steps, and no more than a part may have
pub record IsLength (n : ℕ) : Type 0 where
  pub some : 1 ≤ n
  pub few : n ≤ most_part

-- so have all parts that have an end
abbrev pub AreLengths : List (Option ℕ) → Type 0
AreLengths parts = (k n : ℕ) → slice_index_or parts k None ≡ Some n → IsLength n
