-- Laws of the path in views: each view has one frame, and the line says what the view before its first cycle shows.
use Rattle.std.specs.Prelude.{ℕ, ◌+◌, ◌-◌, ◌<◌, ◌≤◌, ◌≡◌, ◌≢◌, ◌==◌, ◌⊎◌, Bool, true, false, All, List, [], ◌∷◌, ◌++◌}
use Rattle.std.specs.Prelude.{codes, count_by, length, Option, Some, None, sum_by}
use Rattle.std.specs.List.{Contains, filter, range_with_len}
use Rattle.tomex_rvexec.specs.Steps.{is_number}
use Rattle.tomex_rvexec.specs.declared.step.Step.{Step}
use Rattle.tomex_rvexec.specs.Run.{most_steps}
use Rattle.tomex_config.specs.Configuration.{Configuration, IsWithinLimits}
use Rattle.tomex_timing.specs.Search.{history, times_in, total_of}
use Rattle.tomex_path.specs.declared.link.Link.{Link}
use Rattle.tomex_path.specs.declared.reason.Reason.{Reason}
use Rattle.tomex_path.specs.declared.reason.Reason.TheVariants as reasons
use Rattle.tomex_path.specs.Laws.{cycles_of}
use Rattle.tomex_path.specs.Path.{path_of}
use Rattle.tomex_snapshots.specs.Entries.{entries_of}
use Rattle.tomex_snapshots.specs.declared.entries.Entry.{Entry}
use Rattle.tomex_snapshots.specs.declared.entries.Span.{Span}
use Rattle.tomex_frames.specs.Cells.{doing_in, doing_text}
use Rattle.tomex_frames.specs.Laws.{IsOn, rows_of}
use Rattle.tomex_frames.specs.OnPath.{at_cycle, begins, framed_step, path_words, reason_word}
use Rattle.tomex_frames.specs.declared.doing.Doing.{Doing}
use Rattle.tomex_frames.specs.declared.doing.Doing.TheVariants.{Issues, Computes, Executes, Writes, Waits as WaitsFor}
use Rattle.tomex_frames.specs.declared.on_path.OnPath.{OnPath}

-- the path of a run
abbrev pub run_path : Configuration → List Step → List Link
run_path config steps = path_of config (history config steps)

abbrev pub cycles_in : Configuration → List Step → ℕ
cycles_in config steps = total_of (times_in config steps)

-- the rows of a view that have the frame
abbrev pub framed_rows : List Link → Span → List Entry → ℕ → List Entry
framed_rows path page es t = filter (λ e. is_number (framed_step (at_cycle t path)) e.number) (rows_of page es t)

-- the step issues, computes its address, executes or writes its result
abbrev pub is_work : Option Doing → Bool
is_work (Some Issues) = true
is_work (Some Computes) = true
is_work (Some Executes) = true
is_work (Some Writes) = true
is_work (Some (WaitsFor cause)) = false
is_work None = false

-- A view has one row with the frame: that of the step of the path's link with the cycle. The step works in it.
pub record HasOneFrame (path : List Link) (page : Span) (es : List Entry) (t : ℕ) : Type 0 where
  pub link : Link
  pub on_path : Contains path link
  pub from : link.from ≤ t
  pub to : t ≤ link.to
  pub row : Entry
  pub rows : framed_rows path page es t ≡ row ∷ []
  pub step : row.number ≡ link.step
  pub works : is_work (doing_in t row) ≡ true

abbrev pub EachViewHasOneFrame : Type 0
EachViewHasOneFrame = (config : Configuration) (steps : List Step) (page : Span) (t : ℕ) → IsWithinLimits config
    → IsOn page t → 0 < t → t ≤ cycles_in config steps
    → HasOneFrame (run_path config steps) page (entries_of config steps) t

-- how often a step's row has the frame in the views of cycles 1 to `last`, each of which is on a page
abbrev pub frames_of : List Link → (ℕ → Span) → List Entry → ℕ → ℕ → ℕ
frames_of path page es last number =
    sum_by (λ t. count_by (λ e. e.number == number) (framed_rows path (page t) es t)) (range_with_len 1 last)

-- over a whole run a step's frames are its link's cycles
abbrev pub FramesAreCycles : Type 0
FramesAreCycles = (config : Configuration) (steps : List Step) (page : ℕ → Span) → IsWithinLimits config
    → ((t : ℕ) → IsOn (page t) t)
    → All (λ l. frames_of (run_path config steps) page (entries_of config steps) (cycles_in config steps) l.step
    ≡ cycles_of l) (run_path config steps)

-- and all frames are the run's cycles
abbrev pub FramesAddUp : Type 0
FramesAddUp = (config : Configuration) (steps : List Step) (page : ℕ → Span) → IsWithinLimits config
    → ((t : ℕ) → IsOn (page t) t)
    → sum_by (λ t. length (framed_rows (run_path config steps) (page t) (entries_of config steps) t))
    (range_with_len 1 (cycles_in config steps)) ≡ cycles_in config steps

-- What a row says in the cycle before its step's link: that it waits for the link's reason. A step in its turn waits
-- for nothing, one that waits for an older access's address may lack an operand too, and an operand may come in the
-- step's own address cycle.
abbrev pub SaysWait : Reason → List ℕ → Type 0
SaysWait reasons.Order words = Unit {0}
SaysWait reasons.Address words = Unit {0}
SaysWait reasons.Operand words =
    (words ≡ codes "waits: " ++ reason_word reasons.Operand) ⊎ (words ≡ codes "address")
SaysWait reason words = words ≡ codes "waits: " ++ reason_word reason

-- each link's step has one row among those of the run, which says in the view before the link what the line will say
pub record SaysBefore (es : List Entry) (l : Link) : Type 0 where
  pub row : Entry
  pub is : filter (λ e. l.step == e.number) es ≡ row ∷ []
  pub says : SaysWait l.reason (doing_text (doing_in (l.from - 1) row))

abbrev pub LineIsTheWaitBefore : Type 0
LineIsTheWaitBefore = (config : Configuration) (steps : List Step) → IsWithinLimits config
    → All (SaysBefore (entries_of config steps)) (run_path config steps)

-- The line is marked exactly in the views in which it says something else than in the view before.
abbrev pub LineIsMarkedWhereItChanges : Type 0
LineIsMarkedWhereItChanges = (config : Configuration) (steps : List Step) (t : ℕ) (before now : OnPath)
    → IsWithinLimits config → length steps ≤ most_steps → 0 < t → t < cycles_in config steps
    → at_cycle t (run_path config steps) ≡ Some before → at_cycle (t + 1) (run_path config steps) ≡ Some now
    → (begins (t + 1) now ≡ false → path_words steps now ≡ path_words steps before)
    × (begins (t + 1) now ≡ true → path_words steps now ≢ path_words steps before)
