-- What holds of each machine.
use Rattle.std.specs.Prelude.{◌≡◌, ℕ, ◌+◌, ◌≤◌, ◌^◌, nat_lt, if◌then◌else◌, List, Option}
use Rattle.tomex_image.specs.Image.{Loaded, IsLoaded}
use Rattle.tomex_config.specs.Configuration.{Configuration, IsWithinLimits}
use Rattle.tomex_timing.specs.History.{greatest_end}
use Rattle.tomex_cycle.specs.declared.inner.Inner.{Inner}
use Rattle.tomex_cycle.specs.declared.progress.Progress.{Progress}
use Rattle.tomex_cycle.specs.declared.progress.Progress.TheVariants.{Running, Ended}
use Rattle.tomex_cycle.specs.declared.finishes.Finishes.{Finishes}
use Rattle.tomex_cycle.specs.Finishes.{IsTimetableOf}
use Rattle.tomex_cycle.specs.Inner.{IsAt}
use Rattle.tomex_cycle.specs.Run.{RunEndsAfter, first_timed}
use Rattle.tomex_tags.specs.declared.station.Station.{Station}

-- the machine after a cycle of a run that ends after n other steps
pub record IsAfter {A : Type 0} (i : Loaded) (config : Configuration) (n cycle : ℕ) (status : Progress)
    (inner : Inner A) : Type 0 where
  pub high : cycle ≤ greatest_end (first_timed config i (n + 1))
  pub answer : status ≡ (if nat_lt cycle (greatest_end (first_timed config i (n + 1))) then Running else Ended)
  pub snapshot : IsAt i config n cycle inner

-- what holds of a machine of any image: if its program ends, it is after this cycle of its run
pub record IsSound {A : Type 0} (i : Loaded) (config : Configuration) (cycle : ℕ) (status : Progress)
    (inner : Inner A) : Type 0 where
  pub lawful : IsWithinLimits config
  pub loaded : IsLoaded i.window i.memory i.entry
  pub low : cycle ≤ 2 ^ 40
  pub after : (n : ℕ) → RunEndsAfter i config n → IsAfter i config n cycle status inner

-- as long as it runs, the timetable of finishes is right
abbrev pub HasTimetableWhileRunning : Progress → List (Option Station) → ℕ → Finishes → Type 0
HasTimetableWhileRunning status slots next known = status ≡ Running → IsTimetableOf slots next known
