-- An excerpt of a run: some neighbouring steps, and their times on a configuration.
use Rattle.std.specs.Prelude.{◌≡◌, ◌-◌, ◌*◌, ◌<◌, ◌≤◌, ◌^◌, ℕ, List, drop, length, take}
use Rattle.tomex_rvexec.specs.declared.step.Step.{Step}
use Rattle.tomex_config.specs.Configuration.{Configuration}
use Rattle.tomex_timing.specs.Search.{times_in, total_of}
use Rattle.tomex_timing.specs.declared.times.Times.{Times}
use Rattle.tomex_run_views.specs.declared.excerpt_error.ExcerptError.{ExcerptError}
use Rattle.tomex_run_views.specs.declared.excerpt_error.ExcerptError.TheVariants.{Memory, NoSuchStep}
use Rattle.tomex_rvexec.specs.Run.{most_steps}

-- the number of the first step, the run's first step being number 1; the steps in program order; the times of each
pub record TimedSteps : Type 0 where
  pub number : ℕ
  pub steps : List Step
  pub times : List Times

-- the part of a list that is shown: at most `count` items, from a number on; the first item is number 1
abbrev pub excerpt : {X : Type 0} → ℕ → ℕ → List X → List X
excerpt number count xs = take count (drop (number - 1) xs)

-- the steps of a run that are shown, and of the run's times those of these steps
abbrev pub excerpt_with : List Step → List Times → ℕ → ℕ → TimedSteps
excerpt_with steps times number count = record {
  number = number;
  steps = excerpt number count steps;
  times = excerpt number count times;
}

-- with their times on a configuration
abbrev pub excerpt_of : Configuration → List Step → ℕ → ℕ → TimedSteps
excerpt_of config steps number count = excerpt_with steps (times_in config steps) number count

-- times of a run's steps on some configuration: one for each, and no later than a run can take
pub record AreTimesOf (steps : List Step) (times : List Times) : Type 0 where
  pub pairs : length times ≡ length steps
  pub bound : total_of times ≤ 67 * length steps

-- the limits of each excerpt of a program's run: its numbers are those of a run, and its cycles too
pub record IsExcerpt (e : TimedSteps) : Type 0 where
  pub number : 0 < e.number
  pub pairs : length e.times ≡ length e.steps
  pub short : length e.steps ≤ most_steps
  pub numbers : e.number < 2 ^ 32
  pub bound : total_of e.times < 2 ^ 32

-- it is the excerpt that is asked for
pub record IsExcerptOf (config : Configuration) (steps : List Step) (number count : ℕ) (e : TimedSteps) : Type 0 where
  pub there : number ≤ length steps
  pub is : e ≡ excerpt_of config steps number count

-- why there is no excerpt
abbrev pub HasNoExcerpt : List Step → ℕ → ExcerptError → Type 0
HasNoExcerpt steps number NoSuchStep = length steps < number
HasNoExcerpt steps number Memory = Unit {0}
