-- What is known of a run up to a place: the states that are kept, and what followed them; and where the evaluation of
-- the run is.
use Rattle.std.specs.Prelude.{ℕ, ◌*◌, ◌^◌, ◌<◌, ◌≤◌, ◌≡◌, List, Option, Some, IfSome, drop, length}
use Rattle.std.specs.Prelude.{slice_index, slice_index_or}
use Rattle.tomex_rvexec.specs.declared.step.Step.{Step}
use Rattle.tomex_config.specs.Configuration.{Configuration}
use Rattle.tomex_alike.specs.Laws.{first_issue_at, history_to}
use Rattle.tomex_repeats.specs.Blocks.{AreInARow, Blocks}
use Rattle.tomex_states.specs.Reuse.{CanBeKept}
use Rattle.tomex_states.specs.States.{AreNoted, ShowsState}
use Rattle.tomex_states.specs.declared.state.State.{State}
use Rattle.tomex_evaluation.specs.Kept.{entry_of}
use Rattle.tomex_evaluation.specs.Places.{IsBack, IsCut, WentThrough}
use Rattle.tomex_evaluation.specs.declared.evaluation.Evaluation.{Evaluation}
use Rattle.tomex_evaluation.specs.declared.evaluation.Standing.{Standing}
use Rattle.tomex_evaluation.specs.declared.evaluation.Standing.TheVariants.{Evaluated, Kept}
use Rattle.tomex_evaluation.specs.declared.known.Known.{Known}
use Rattle.tomex_evaluation.specs.declared.known.Next.{Next}

-- An entry says what followed a kept state: each of them is that of a place.
pub record IsEntry (config : Configuration) (steps : List Step) (run : Blocks) (i : ℕ) (places : List ℕ)
    (v number : ℕ) (next : Next) : Type 0 where
  pub state : next.state < length places
  pub went : WentThrough config steps run i (slice_index places v) number (slice_index places next.state) next.passed

-- each kept state, of at most 32, shows the run up to a place that has passed, and each entry says what followed it
-- there
pub record AreKnown {A : Type 0} (config : Configuration) (steps : List Step) (run : Blocks) (i : ℕ)
    (places : List ℕ) (known : Known A) : Type 0 where
  pub different : known.different ≡ run.different
  pub few : known.different < 2 ^ 32
  pub count : length known.states.items ≡ length places
  pub bound : length known.states.items ≤ 32
  pub rows : length known.next.items ≡ length places * known.different
  pub passed : (v : ℕ) → v < length places → slice_index places v ≤ i
  pub shown : (v : ℕ) (z : State A) → v < length places
      → ShowsState config (history_to config steps (slice_index places v)) (slice_index_or known.states.items v z)
  pub kept : (v : ℕ) (z : State A) → v < length places → CanBeKept config (slice_index_or known.states.items v z)
  pub entries : (v number : ℕ) (next : Next) → v < length places → number < known.different
      → entry_of known v number ≡ Some next → IsEntry config steps run i places v number next

-- the run looks at place i as at the place of a kept state
pub record IsInKept (config : Configuration) (steps : List Step) (places : List ℕ) (i v : ℕ) : Type 0 where
  pub number : v < length places
  pub back : IsBack config steps (slice_index places v) i

-- the state in which the run is
abbrev pub StandsAt : {A : Type 0} → Configuration → List Step → List ℕ → ℕ → State A → Standing → Type 0
StandsAt config steps places i state (Evaluated kept) =
    ShowsState config (history_to config steps i) state × IfSome kept (IsInKept config steps places i)
StandsAt config steps places i state (Kept v) = IsInKept config steps places i v

-- the number of the kept state that it looks like, if there is one
abbrev pub kept_of : Standing → Option ℕ
kept_of (Evaluated kept) = kept
kept_of (Kept v) = Some v

-- The evaluation is at a place of the run: it has the first cycle in which the next step may issue, and the demands so
-- far, all but the total.
pub record IsAt {A : Type 0} (config : Configuration) (steps : List Step) (run : Blocks) (i : ℕ) (e : Evaluation A)
    : Type 0 where
  pub places : List ℕ
  pub known : AreKnown config steps run i places e.known
  pub stands : StandsAt config steps places i e.state e.standing
  pub time : e.time ≡ first_issue_at config steps i
  pub noted : AreNoted config (history_to config steps i) e.demands

-- it is at the place of the block that is k-th in the row, or at the run's end if there are k blocks
pub record IsBefore {A : Type 0} (config : Configuration) (steps : List Step) (run : Blocks) (k : ℕ) (e : Evaluation A)
    : Type 0 where
  pub cut : IsCut config steps run
  pub within : k ≤ length run.blocks
  pub place : ℕ
  pub row : AreInARow place (drop k run.blocks) (length steps)
  pub at : IsAt config steps run place e
