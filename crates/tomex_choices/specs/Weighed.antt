-- The code's own words: what is known of a study's lists after all new machines were evaluated.
use Rattle.std.specs.Prelude.{ℕ, ◌≡◌, if◌then◌else◌, List, [], ◌∷◌, length, slice_get, Option, Some, None}
use Rattle.std.specs.List.{flat_map, list_any, range_with_len}
use Rattle.tomex_config.specs.Configuration.{Configuration}
use Rattle.tomex_study.specs.Study.{DesignSpace}
use Rattle.tomex_config.specs.declared.part.Part.{Part}
use Rattle.tomex_config.specs.Parts.{part_at}
use Rattle.tomex_choices.specs.Additions.{has_entry, saving_of, useful}
use Rattle.tomex_config.specs.Parts.{most_of}
use Rattle.tomex_choices.specs.Enough.{enough}
use Rattle.tomex_choices.specs.NewMachines.{grown}
use Rattle.tomex_choices.specs.Passing.{Has}
use Rattle.tomex_choices.specs.declared.new_machine.NewMachine.{NewMachine}
use Rattle.tomex_choices.specs.declared.weighing.WeighedList.{WeighedList}

-- of a part's list the new machines that are of use, each at least once, the greatest saving, and how many are enough
pub record IsWeighed {A : Type 0} (s : DesignSpace) (part : Part) (l : WeighedList A) : Type 0 where
  pub only : (x : NewMachine) → Has l.useful.items x → Has (useful s part) x
  pub all : (x : NewMachine) → Has (useful s part) x → Has l.useful.items x
  pub saving_is : l.saving ≡ saving_of s part
  pub enough_is : l.enough ≡ enough s part

-- the same of each list
pub record AreWeighed {A : Type 0} (s : DesignSpace) (lists : List (WeighedList A)) : Type 0 where
  pub count : length lists ≡ 13
  pub each : (place : ℕ) (l : WeighedList A) → slice_get lists place ≡ Some l → IsWeighed s (part_at place) l

-- the choices that a configuration brings and that one of these machines has
abbrev pub added_if : Part → List NewMachine → Option Configuration → List Configuration
added_if part machines None = []
added_if part machines (Some c) = if list_any (has_entry part c) machines then c ∷ [] else []

unfoldable pub added_by : List Configuration → Part → List NewMachine → Configuration → List Configuration
added_by rows part machines c =
    flat_map (λ n. added_if part machines (grown rows part c n)) (range_with_len 1 (most_of part))
