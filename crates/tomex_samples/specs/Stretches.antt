-- The stretches of a run, each of the same number of steps, one after another. What is left at the end, of fewer, is no
-- stretch.
use Rattle.std.specs.Prelude.{ℕ, zero, suc, ◌+◌, ◌*◌, ◌/◌, ◌==◌, List, [], length, map, count_by, Option, Some, None}
use Rattle.std.specs.Prelude.{Result, Ok, Err}
use Rattle.tomex_cut.specs.declared.error.CutError.{CutError}
use Rattle.tomex_cut.specs.After.{after}
use Rattle.tomex_cut.specs.Part.{Part, part_of}
use Rattle.tomex_image.specs.Image.{Loaded}
use Rattle.tomex_image.specs.Window.{Span}
use Rattle.tomex_samples.specs.declared.error.PartsError.{PartsError}
use Rattle.tomex_samples.specs.declared.error.PartsError.TheVariants as errors
use Rattle.tomex_samples.specs.Numbers.{below}
use Rattle.tomex_rvexec.specs.declared.step.Step.{Step}
use Rattle.tomex_rvexec.specs.Machine.{State, Outcome, Goes, Ends, Faults, step_of}
use Rattle.tomex_rvexec.specs.Run.{start_of}
use Rattle.tomex_rvexec.specs.Trace.{steps_from}

-- one step more
abbrev pub and_one : Result ℕ PartsError → Result ℕ PartsError
and_one (Ok n) = Ok (n + 1)
and_one (Err e) = Err e

-- the number of steps from a state on by its step's outcome, given that after it
abbrev pub length_by : Outcome → State → (State → Result ℕ PartsError) → Result ℕ PartsError
length_by (Goes t) s rest = and_one (rest t)
length_by (Ends kind) s rest = Ok 1
length_by (Faults kind) s rest = Err (errors.Fault (record { kind = kind; pc = s.pc }))

-- the number of steps of a run from a state on, if it ends and has no more than this number
abbrev pub run_length : ℕ → State → Result ℕ PartsError
run_length zero s = Err errors.TooLong
run_length (suc most) s = length_by (step_of s) s (run_length most)

-- the most stretches of a run
abbrev pub most_stretches : ℕ
most_stretches = 16384

-- a number of steps from a state on, if the run goes as far
abbrev pub steps_on : ℕ → Result State CutError → List Step
steps_on n (Ok s) = steps_from n s
steps_on n (Err e) = []

-- the steps of stretch k, the first being 0
abbrev pub stretch : Loaded → ℕ → ℕ → List Step
stretch i steps k = steps_on steps (after (start_of i) (k * steps))

-- how many of these steps are at each word of the window
abbrev pub counts_of : Span → List Step → List ℕ
counts_of window xs =
    map (λ w. count_by (λ (x : Step). x.pc == window.base + 4 * w) xs) (below (window.size / 4))

-- the number of steps of a part, if there is one
abbrev pub part_length : Result Part CutError → Option ℕ
part_length (Ok p) = Some (length p.steps)
part_length (Err e) = None

-- a run by its stretches: how many steps of each are at each word, and how many steps the part that begins with it has
pub record Run : Type 0 where
  pub counts : List (List ℕ)
  pub parts : List (Option ℕ)

-- the first n stretches of an image's run
abbrev pub run_of : Loaded → ℕ → ℕ → Run
run_of i steps n = record {
  counts = map (λ k. counts_of i.window (stretch i steps k)) (below n);
  parts = map (λ k. part_length (part_of i (k * steps + 1) steps)) (below n);
}
