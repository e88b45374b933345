-- Where an evaluation begins, where it ends, and how its evaluator reaches the run's next step.
use Rattle.std.proofs.Common.{ℕ, ◌+◌, ◌-◌, ◌<◌, ◌≤◌, ◌≡◌, ◌^◌, arith, sym, ap, subst, List, [], get_or}
use Rattle.std.proofs.Common.{length}
use Rattle.std.proofs.Common.{take, None}
use Rattle.std.proofs.Math.Seq.{drop-length, take-length}
use Rattle.std.specs.Prelude.{slice_index}
use Rattle.tomex_rvexec.specs.declared.step.Step.{Step}
use Rattle.tomex_config.specs.Configuration.{Configuration}
use Rattle.tomex_timing.specs.declared.recent.Facts.{Facts}
use Rattle.tomex_timing.specs.declared.times.Done.{Done}
use Rattle.tomex_timing.specs.Demands.{AreDemands, nothing_asked, with_total}
use Rattle.tomex_timing.specs.History.{greatest_end}
use Rattle.tomex_timing.specs.Recent.{AreFacts}
use Rattle.tomex_timing.specs.Search.{history}
use Rattle.tomex_timing.proofs.Demanded.{demands_none}
use Rattle.tomex_alike.specs.Laws.{first_issue_at, history_to}
use Rattle.tomex_alike.proofs.Runs.{no_less}
use Rattle.tomex_repeats.specs.Blocks.{AreInARow, Blocks}
use Rattle.tomex_states.specs.Reuse.{CanBeKept, IsCopy, ShowsLater, ShowsTheSame}
use Rattle.tomex_states.specs.States.{AreNoted, ShowsState}
use Rattle.tomex_states.specs.declared.state.State.{State}
use Rattle.tomex_states.proofs.Histories.{facts_to}
use Rattle.tomex_evaluation.specs.Known.{AreKnown, IsBefore}
use Rattle.tomex_evaluation.specs.Places.{IsBack, IsCut}
use Rattle.tomex_evaluation.specs.declared.evaluation.Evaluation.{Evaluation}
use Rattle.tomex_evaluation.specs.declared.evaluation.Standing.TheVariants.{Evaluated}
use Rattle.tomex_evaluation.specs.declared.known.Known.{Known}
use Rattle.tomex_evaluation.proofs.Keeping.{known_none}
use Rattle.tomex_evaluation.proofs.Row.{as_long, end_at_most, first_at_most}

module _ {A : Type 0} (config : Configuration) (steps : List Step) (run : Blocks) (cut : IsCut config steps run) where
  -- before the first block
  pub begins : (e : Evaluation A) → e.standing ≡ Evaluated None → ShowsState config [] e.state
      → e.time ≡ first_issue_at config steps 0 → e.demands ≡ nothing_asked → e.known.states.items ≡ []
      → e.known.next.items ≡ [] → e.known.different ≡ run.different → e.known.different < 2 ^ 32
      → IsBefore config steps run 0 e
  begins e standing shows time demands states next different few = record {
    cut = cut;
    within = omega arith;
    place = 0;
    row = rw (as_long config steps run cut) at cut.blocks.row;
    at = record {
      places = [];
      known = known_none config steps run 0 e.known states next different few;
      stands = rw standing (shows, tt);
      time = time;
      noted = rw demands (demands_none config);
    };
  }

  -- A kept state, read from the list of them.
  pub record IsKeptOf (i p : ℕ) (state : State A) : Type 0 where
    pub passed : p ≤ i
    pub shows : ShowsState config (history_to config steps p) state
    pub can : CanBeKept config state

  pub kept_of : (i v : ℕ) (places : List ℕ) (known : Known A) (state : State A)
      → AreKnown config steps run i places known → v < length places → state ≡ get_or known.states.items v state
      → IsKeptOf i (slice_index places v) state
  kept_of i v places known state so l is = record {
    passed = so.passed v l;
    shows = subst (λ (x : State A). ShowsState config (history_to config steps (slice_index places v)) x) (sym is)
        (so.shown v state l);
    can = subst (λ (x : State A). CanBeKept config x) (sym is) (so.kept v state l);
  }

  module _ (i p : ℕ) (state : State A) (within : i ≤ length steps) (kept : IsKeptOf i p state)
      (back : IsBack config steps p i) where
    pub first_passed : first_issue_at config steps p ≤ first_issue_at config steps i
    first_passed = (no_less config steps cut.limits p i kept.passed within).first

    pub ends_small : greatest_end (history_to config steps p) < 2 ^ 62
    ends_small = end_at_most config steps run cut p (omega (arith, kept.passed))

    -- the greatest end is as far after the first cycle in which the next step may issue
    pub ends_back : first_issue_at config steps i + greatest_end (history_to config steps p)
        - first_issue_at config steps p ≡ greatest_end (history_to config steps i)
    ends_back =
        let here = first_at_most config steps run cut i within in
        let there = first_at_most config steps run cut p (omega (arith, kept.passed)) in
        omega (arith, back.end, here, there)

    -- the cycles of a copy may be moved
    pub moves : (copy : State A) → IsCopy state copy
        → copy.recent.latest.end + (first_issue_at config steps i - first_issue_at config steps p) < 2 ^ 63
    moves copy is =
        let here = first_at_most config steps run cut i within in
        let end = end_at_most config steps run cut i within in
        let e = kept.shows.held.latest.end in
        rw is.latest (omega (arith, here, end, e, ends_small))

    -- a copy can be moved to the next step
    pub comes : (by : ℕ) (facts : List Facts) (copy moved : State A) → AreFacts steps facts
        → by ≡ first_issue_at config steps i - first_issue_at config steps p → ShowsTheSame state copy
        → ShowsLater config by (take i facts) copy moved → ShowsState config (history_to config steps i) moved
    comes by facts copy moved are e same later =
        later (history_to config steps p) (take i steps) (facts_to steps facts i are)
        (same config (history_to config steps p) kept.shows) back (omega (arith, e, first_passed))

  -- at the run's end
  pub ends_there : (e : Evaluation A) → (before : IsBefore config steps run (length run.blocks) e)
      → before.place ≡ length steps
  ends_there e before =
      let row : AreInARow before.place [] (length steps) = rw (drop-length run.blocks) at before.row in
      row

  -- and the demands with the total there are the run's
  pub demands_there : (e : Evaluation A) (total : ℕ) → IsBefore config steps run (length run.blocks) e
      → total ≡ greatest_end (history_to config steps (length steps))
      → AreDemands config (history config steps) (with_total total e.demands)
  demands_there e total before is =
      let there = ends_there e before in
      let noted : AreNoted config (history_to config steps (length steps)) e.demands = rw there at before.at.noted in
      let whole : history_to config steps (length steps) ≡ history config steps =
      ap (history config) (take-length steps) in
      subst (λ (h : List Done). AreDemands config h (with_total total e.demands)) whole (rw is noted)
