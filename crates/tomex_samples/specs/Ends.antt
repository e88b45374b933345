-- How the code ends the parts that begin with a run's stretches.
use Rattle.std.specs.Prelude.{◌≡◌, ◌≢◌, ℕ, ◌-◌, ◌*◌, ◌<◌, ◌≤◌, nat_le, if◌then◌else◌, List, length, take}
use Rattle.std.specs.Prelude.{Option, Some, None, slice_index, slice_index_or}
use Rattle.tomex_cut.specs.Part.{most_part}

-- the number of steps of the part that begins with stretch k, if it ends after n steps of the run
abbrev pub length_at : ℕ → ℕ → ℕ → Option ℕ
length_at steps n k = if nat_le (n - k * steps) most_part then Some (n - k * steps) else None

-- each number is greater than those before it
abbrev pub IsRising : List ℕ → Type 0
IsRising ks = (t u : ℕ) → t < u → u < length ks → slice_index ks t < slice_index ks u

-- of the parts that wait for their end, all but some ended after n steps of the run
pub record AreEnding (steps n last kept : ℕ) (parts : List (Option ℕ)) (waiting : List ℕ)
    (new_parts : List (Option ℕ)) (new_waiting : List ℕ) : Type 0 where
  pub few : kept ≤ length waiting
  pub is : new_waiting ≡ take kept waiting
  pub size : length new_parts ≡ length parts
  pub ended : (t : ℕ) → kept ≤ t → t < length waiting → (last ≤ slice_index waiting t * steps)
      × (slice_index_or new_parts (slice_index waiting t) None ≡ length_at steps n (slice_index waiting t))
  pub same : (k : ℕ) → ((t : ℕ) → kept ≤ t → t < length waiting → slice_index waiting t ≢ k)
      → slice_index_or new_parts k None ≡ slice_index_or parts k None

-- those that are kept began before a step, and the others did not
pub record HaveEnded (steps n last : ℕ) (parts : List (Option ℕ)) (waiting : List ℕ) (new_parts : List (Option ℕ))
    (new_waiting : List ℕ) : Type 0 where
  pub kept : ℕ
  pub ending : AreEnding steps n last kept parts waiting new_parts new_waiting
  pub began : (t : ℕ) → t < kept → slice_index waiting t * steps < last
