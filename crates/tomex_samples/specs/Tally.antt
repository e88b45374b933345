-- What the code keeps of a run's stretches.
use Rattle.std.specs.Prelude.{◌≡◌, ◌≢◌, ℕ, ◌+◌, ◌*◌, ◌/◌, ◌==◌, ◌<◌, ◌≤◌, Bool, List, [], length, map, count_by}
use Rattle.std.specs.Prelude.{Option, Some, None, Ok, MatchBool, slice_index, slice_index_or}
use Rattle.std.specs.declared.vec.Vec.{Vec}
use Rattle.tomex_cut.specs.After.{after}
use Rattle.tomex_cut.specs.Part.{GoesOn, most_part, part_at, uses, verdict}
use Rattle.tomex_image.specs.Image.{Loaded}
use Rattle.tomex_samples.specs.declared.counts.Entry.{Entry}
use Rattle.tomex_samples.specs.Counts.{AreCovered, IsSparse}
use Rattle.tomex_samples.specs.Ends.{IsRising}
use Rattle.tomex_samples.specs.Numbers.{sum_below}
use Rattle.tomex_samples.specs.Stretches.{Run, counts_of, most_stretches, part_length, steps_on, stretch}
use Rattle.tomex_samples.specs.Uses.{AreNumbered}
use Rattle.tomex_rvexec.specs.declared.outcome.EndKind.{EndKind}
use Rattle.tomex_rvexec.specs.declared.step.Step.{Step}
use Rattle.tomex_rvexec.specs.Machine.{State, Goes, coming_of, step_of}
use Rattle.tomex_rvexec.specs.Machine.{Ends as EndsRun}
use Rattle.tomex_rvexec.specs.Run.{start_of}

-- the lists of a list of lists
abbrev pub lists : {X A : Type 0} → List (Vec X A) → List (List X)
lists vs = map (λ v. v.items) vs

-- the entries of a whole stretch, whose counts these are
pub record IsRow (steps words : ℕ) (row : List Entry) (counts : List ℕ) : Type 0 where
  pub size : length counts ≡ words
  pub sparse : IsSparse row counts
  pub sum : sum_below (λ w. slice_index counts w) words ≡ steps

-- the parts that end within m steps of the run are known, and the other stretches wait for theirs
pub record AreFound (i : Loaded) (steps m : ℕ) (parts : List (Option ℕ)) (waiting : List ℕ) : Type 0 where
  pub rising : IsRising waiting
  pub inside : (t : ℕ) → t < length waiting → slice_index waiting t < length parts
  pub goes_on : (t : ℕ) (s : State) (n : ℕ) → t < length waiting
      → after (start_of i) (slice_index waiting t * steps) ≡ Ok s → steps ≤ n
      → slice_index waiting t * steps + n < m → verdict s n ≡ GoesOn
  pub known : (k : ℕ) → k < length parts → ((t : ℕ) → t < length waiting → slice_index waiting t ≢ k)
      → slice_index_or parts k None ≡ part_length (part_at (after (start_of i) (k * steps)) steps)

-- the stretches after n steps: those that are whole, and the one that is under way
pub record AreTallied (i : Loaded) (steps n current : ℕ) (counts words : List ℕ) (rows : List (List Entry))
    (whole : ℕ) : Type 0 where
  pub done : n ≡ whole * steps + current
  pub fewer : current ≤ steps
  pub size : length counts ≡ i.window.size / 4
  pub now : (w : ℕ) → w < length counts → slice_index counts w
      ≡ count_by (λ (x : Step). x.pc == i.window.base + 4 * w) (steps_on current (after (start_of i) (whole * steps)))
  pub sum : sum_below (λ w. slice_index counts w) (length counts) ≡ current
  pub covered : AreCovered words counts
  pub number : length rows ≡ whole
  pub rows_are : (k : ℕ) → k < whole
      → IsRow steps (i.window.size / 4) (slice_index_or rows k []) (counts_of i.window (stretch i steps k))

-- step n + 1 of the run is x
pub record IsStep (i : Loaded) (n : ℕ) (x : Step) : Type 0 where
  pub before : State
  pub reached : after (start_of i) n ≡ Ok before
  pub comes : coming_of before ≡ Some x

-- the step x is taken from s to t, or ends the run, and its words have its number
pub record HasStepped (s : State) (x : Step) (last : Bool) (t : State) (base number : ℕ) (old new : List ℕ)
    : Type 0 where
  pub comes : coming_of s ≡ Some x
  pub goes : MatchBool last ((kind : EndKind) × (step_of s ≡ EndsRun kind)) (step_of s ≡ Goes t)
  pub numbers : AreNumbered base (λ a. uses a x) number old new

-- a run's stretches: the entries of each, and the steps of the parts
pub record IsShown (steps words : ℕ) (rows : List (List Entry)) (parts : List (Option ℕ)) (run : Run) : Type 0 where
  pub few : steps ≤ most_part
  pub not_many : length parts ≤ most_stretches
  pub parts_are : run.parts ≡ parts
  pub number : length run.counts ≡ length parts
  pub rows_number : length rows ≡ length parts
  pub rows_are : (k : ℕ) → k < length parts
      → IsRow steps words (slice_index_or rows k []) (slice_index_or run.counts k [])
