-- The plateaus that are kept for one program.
use Rattle.std.specs.Prelude.{◌≡◌, ℕ, ◌+◌, ◌%◌, ◌<◌, ◌≤◌, ◌^◌, nat_lt, true, if◌then◌else◌, List, [], ◌∷◌, ◌++◌, length}
use Rattle.std.specs.Prelude.{All, Some, slice_get, slice_set}
use Rattle.tomex_rvexec.specs.declared.step.Step.{Step}
use Rattle.tomex_config.specs.Configuration.{Configuration}
use Rattle.tomex_plateaus.specs.declared.plateau.Plateau.{Plateau}
use Rattle.tomex_plateaus.specs.Plateaus.{IsPlateauOf, fits, lies_on}

-- the most plateaus that are kept
abbrev pub most_plateaus : ℕ
most_plateaus = 8192

-- the steps of the program's run, its plateaus, and the place of the oldest of them, if the list is full
pub record Kept : Type 0 where
  pub steps : List Step
  pub found : List Plateau
  pub oldest : ℕ

-- each of them is a plateau of the program
pub record AreKept (k : Kept) : Type 0 where
  pub short : length k.steps < 2 ^ 28
  pub are : All (IsPlateauOf k.steps) k.found
  pub few : length k.found ≤ most_plateaus
  pub place : k.oldest < most_plateaus

-- with one more plateau, which replaces the oldest if the list is full
abbrev pub kept_with : Plateau → Kept → Kept
kept_with p k =
    if nat_lt (length k.found) most_plateaus
    then record { steps = k.steps; found = k.found ++ (p ∷ []); oldest = k.oldest }
    else record { steps = k.steps; found = slice_set k.found k.oldest p; oldest = (k.oldest + 1) % most_plateaus }

-- there is a plateau at a place, and the configuration with these numbers lies on it
pub record LiesAt (numbers : List ℕ) (found : List Plateau) (place : ℕ) : Type 0 where
  pub plateau : Plateau
  pub at : slice_get found place ≡ Some plateau
  pub on : fits numbers plateau ≡ true

-- one more plateau is kept, and the configuration lies on it
pub record HasLearnt (config : Configuration) (old new : Kept) : Type 0 where
  pub plateau : Plateau
  pub on : lies_on config plateau ≡ true
  pub kept : new ≡ kept_with plateau old
