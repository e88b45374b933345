-- A program of a study: an image whose run in order ends within its limit.
use Rattle.std.specs.Prelude.{◌≡◌, ℕ, ◌≤◌, List, length}
use Rattle.tomex_image.specs.Image.{Loaded}
use Rattle.tomex_rvexec.specs.Run.{EndsWithin, IsRefusal, most_steps, start_of}
use Rattle.tomex_rvexec.specs.Trace.{steps_from}
use Rattle.tomex_rvexec.specs.declared.end.RunError.{RunError}
use Rattle.tomex_rvexec.specs.declared.end.RunError.TheVariants as errors
use Rattle.tomex_rvexec.specs.declared.step.Step.{Step}
use Rattle.tomex_study.specs.Watch.{IsWatch}
use Rattle.tomex_study.specs.declared.watch.WatchRange.{WatchRange}
use Rattle.tomex_study.specs.declared.program.ProgramError.{ProgramError}
use Rattle.tomex_study.specs.declared.program.ProgramError.TheVariants.{Fault, TooLong, Memory}

-- what a study knows about a program: the bytes of its name, its image, the most steps that it may make, the ranges
-- of its memory that a report shows, and the factor by which its cycles count
pub record Workload : Type 0 where
  pub name : List ℕ
  pub image : Loaded
  pub limit : ℕ
  pub watch : List WatchRange
  pub weight : ℕ

abbrev pub workload : List ℕ → Loaded → ℕ → List WatchRange → ℕ → Workload
workload name image limit watch weight =
    record { name = name; image = image; limit = limit; watch = watch; weight = weight }

-- its run ends within its limit, which is 1 to 262,144 steps, its ranges are in its window, and its
-- weight is 1 to 1,000
pub record IsProgram (p : Workload) : Type 0 where
  pub some_steps : 1 ≤ p.limit
  pub few_steps : p.limit ≤ most_steps
  pub ends : EndsWithin p.image p.limit
  pub watch : IsWatch p.image.window p.watch
  pub some_weight : 1 ≤ p.weight
  pub most_weight : p.weight ≤ 1000

-- the steps of a program's run, the last of which ends it
abbrev pub steps_of : Workload → List Step
steps_of p = steps_from p.limit (start_of p.image)

-- the steps of an image's run within a limit, and a bound on their number
pub record AreSteps (image : Loaded) (limit : ℕ) (steps : List Step) : Type 0 where
  pub run : steps ≡ steps_from limit (start_of image)
  pub few : length steps ≤ most_steps

-- why the run was refused
abbrev pub refusal_of : ProgramError → RunError
refusal_of (Fault fault) = errors.Fault fault
refusal_of TooLong = errors.TooLong
refusal_of Memory = errors.Memory

-- the run has no end within the limit, for this reason, or memory ran out
abbrev pub IsUnfit : Loaded → ℕ → ProgramError → Type 0
IsUnfit image limit e = IsRefusal image limit (refusal_of e)
