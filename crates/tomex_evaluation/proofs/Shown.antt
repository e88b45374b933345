-- What a shown history says of a state: which cycles it has, and that the history of a run can be shown.
use Rattle.std.proofs.Common.{ℕ, ◌<◌, ◌≤◌, ◌≡◌, ◌^◌, arith, get_or, length, subst, sym, All, List, map, take}
use Rattle.std.specs.Prelude.{slice_index}
use Rattle.tomex_rvexec.specs.declared.step.Step.{Step}
use Rattle.tomex_config.specs.Configuration.{Configuration}
use Rattle.tomex_timing.specs.declared.times.Done.{Done}
use Rattle.tomex_timing.specs.Ahead.{IsSettledBy, held_by}
use Rattle.tomex_timing.specs.Recent.{facts_of}
use Rattle.tomex_alike.specs.Alike.{lateness}
use Rattle.tomex_alike.specs.Laws.{history_to}
use Rattle.tomex_repeats.specs.Blocks.{Blocks}
use Rattle.tomex_states.specs.Reuse.{CanBeKept, IsHistory, ShowsSome}
use Rattle.tomex_states.specs.States.{ShowsState}
use Rattle.tomex_states.specs.declared.state.State.{State}
use Rattle.tomex_states.proofs.Histories.{facts_to, is_history}
use Rattle.tomex_evaluation.specs.Kept.{IsUsable}
use Rattle.tomex_evaluation.specs.Known.{AreKnown}
use Rattle.tomex_evaluation.specs.Places.{IsCut}
use Rattle.tomex_evaluation.specs.declared.known.Known.{Known}
use Rattle.tomex_evaluation.proofs.Row.{end_at_most}

module _ (config : Configuration) (steps : List Step) (run : Blocks) (cut : IsCut config steps run) where
  pub history_is : (i : ℕ) → IsHistory config (history_to config steps i)
  history_is i =
      is_history config (take i steps) (take i (map facts_of steps)) cut.limits
      (facts_to steps (map facts_of steps) i cut.facts)

  module _ {A : Type 0} (i : ℕ) (l : i ≤ length steps) (state : State A)
      (shows : ShowsState config (history_to config steps i) state) where
    pub shows_some : ShowsSome config state
    shows_some = (history_to config steps i, history_is i, shows)

    pub end_small : state.recent.latest.end < 2 ^ 62
    end_small = let e = shows.held.latest.end in omega (arith, end_at_most config steps run cut i l)

    pub is_settled : IsSettledBy (held_by state.recent)
    is_settled = shows.held.settled

    pub is_usable : CanBeKept config state → IsUsable config state
    is_usable can = record { shows = shows_some; small = omega (arith, end_small); kept = can }

  -- all kept states can be used
  pub all_usable : {A : Type 0} (i : ℕ) (places : List ℕ) (known : Known A) → i ≤ length steps
      → AreKnown config steps run i places known → All (IsUsable config) known.states.items
  all_usable i places known l so = λ k z m.
      let there : k < length places = omega (arith, so.count) in
      is_usable (slice_index places k) (omega (arith, so.passed k there)) (get_or known.states.items k z)
      (so.shown k z there) (so.kept k z there)

-- If a state that shows a history can be kept, no later access can meet an older one than the last four.
pub none_older : {A : Type 0} (config : Configuration) (h : List Done) (state : State A) → ShowsState config h state
    → CanBeKept config state → (i : ℕ) → 4 ≤ i → lateness config h i ≡ 0
none_older config h state shows can i l =
    let older = shows.window.older i l in
    let before = can.older in
    let first = shows.held.latest.first in
    let address = shows.held.latest.address in
    omega (arith, older, before, first, address)

-- a state read from a list of usable ones
pub usable_at : {A : Type 0} (config : Configuration) (states : List (State A)) (v : ℕ) (state : State A)
    → All (IsUsable config) states → v < length states → state ≡ get_or states v state → IsUsable config state
usable_at {A} config states v state all l is =
    subst (λ (x : State A). IsUsable config x) (sym is) (all v state l)
