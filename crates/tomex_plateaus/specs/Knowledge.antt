-- What a worker knows about a study's programs: totals on configurations, from evaluations of their runs.
use Rattle.std.specs.Prelude.{◌≡◌, ℕ, ◌<◌, ◌≤◌, List, [], Option, Some, None, length, map, take, slice_get}
use Rattle.std.specs.Prelude.{slice_index_or}
use Rattle.std.specs.Prelude.{All, IfSome}
use Rattle.tomex_rvexec.specs.Run.{start_of}
use Rattle.tomex_rvexec.specs.Trace.{steps_from}
use Rattle.tomex_config.specs.Configuration.{Configuration}
use Rattle.tomex_config.specs.Parts.{count_of, with_count}
use Rattle.tomex_config.specs.declared.part.Part.{Part}
use Rattle.tomex_timing.specs.Run.{total}
use Rattle.tomex_plateaus.specs.Kept.{Kept, HasLearnt}
use Rattle.tomex_plateaus.specs.Plateaus.{total_known}
use Rattle.tomex_study.specs.Program.{Workload, IsProgram}
use Rattle.tomex_study.specs.Study.{DesignSpace}
use Rattle.tomex_study.specs.Cycles.{totals_on}

-- if a total is known at a program's place, it is the program's on the configuration
pub record AreTotals (programs : List Workload) (config : Configuration) (totals : List (Option ℕ)) : Type 0 where
  pub count : length totals ≡ 8
  pub known : (place : ℕ) (p : Workload) (n : ℕ) → slice_get programs place ≡ Some p
      → slice_get totals place ≡ Some (Some n) → total config p.image ≡ n

-- the same for one program
abbrev pub IsTotalAt : List Workload → Configuration → ℕ → Option ℕ → Type 0
IsTotalAt programs config place known =
    (p : Workload) → slice_get programs place ≡ Some p → IfSome known (λ n. total config p.image ≡ n)

-- the totals of all programs, in their order, on the study's configuration of this row
abbrev pub AreTotalsOn : DesignSpace → ℕ → List ℕ → Type 0
AreTotalsOn s row totals = (config : Configuration) → slice_get s.rows row ≡ Some config
    → take (length s.programs) totals ≡ totals_on s.programs config

-- a worker's knowledge as contracts see it: the programs, and the plateaus that are kept for each
pub record KnowledgeOf : Type 0 where
  pub programs : List Workload
  pub lists : List Kept

-- a list of plateaus for each program, of the steps of its run; there are at most 8 programs, and each ends
pub record IsKnowledge (programs : List Workload) (lists : List Kept) : Type 0 where
  pub few : length programs ≤ 8
  pub ends : All IsProgram programs
  pub steps : map (λ l. l.steps) lists ≡ map (λ p. steps_from p.limit (start_of p.image)) programs

-- no plateau is known yet
abbrev pub nothing_known : List Workload → List Kept
nothing_known programs =
    map (λ p. record { steps = steps_from p.limit (start_of p.image); found = []; oldest = 0 }) programs

-- the known totals on a configuration, in the programs' order
abbrev pub known_totals_on : List Kept → Configuration → List (Option ℕ)
known_totals_on lists config = map (λ l. total_known config l.found) lists

-- Only the list at a place may differ.
pub record OnlyAt (place : ℕ) (old new : List Kept) : Type 0 where
  pub count : length new ≡ length old
  pub others : (k : ℕ) → (k ≡ place → ⊥) → slice_get new k ≡ slice_get old k

-- the list of a program after its total was asked for: unchanged if the total was known, else with one more plateau
abbrev pub IsLearnt : Configuration → Option ℕ → Kept → Kept → Type 0
IsLearnt config (Some n) old new = new ≡ old
IsLearnt config None old new = HasLearnt config old new

abbrev pub IsLearntAt : Configuration → ℕ → Option ℕ → List Kept → List Kept → Type 0
IsLearntAt config place known old new =
    (l m : Kept) → slice_get old place ≡ Some l → slice_get new place ≡ Some m → IsLearnt config known l m

-- the lists after the totals of all programs were asked for, of which these were known
pub record AreLearnt (config : Configuration) (known : List (Option ℕ)) (old new : List Kept) : Type 0 where
  pub count : length new ≡ length old
  pub each : (place : ℕ) → IsLearntAt config place (slice_index_or known place None) old new

-- the lists after a row's totals were asked for: what was known on its configuration was looked up, and only the
-- totals of the other programs were learnt
abbrev pub AreLearntOn : DesignSpace → ℕ → List Kept → List Kept → Type 0
AreLearntOn s row old new = (config : Configuration) → slice_get s.rows row ≡ Some config
    → (known : List (Option ℕ)) × (take (length s.programs) known ≡ known_totals_on old config)
    × AreLearnt config known old new

-- with each number of a part from this one on and below the configuration's own all programs take the same cycles
abbrev pub AreTotalsFrom : List Workload → Configuration → Part → ℕ → Type 0
AreTotalsFrom programs config part low = (n : ℕ) → 1 ≤ n → low ≤ n → n < count_of config part
    → totals_on programs (with_count config part n) ≡ totals_on programs config
