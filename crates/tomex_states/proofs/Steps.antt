-- One step more of a run, by what shows the steps before it: then what is held shows the longer history, and the
-- demands that are noted are those of it.
use Rattle.std.proofs.Common.{ℕ, ◌+◌, ◌-◌, ◌^◌, ◌<◌, ◌≡◌, ◌∙◌, arith, refl, sym, ap, List, ◌∷◌, length, take, max}
use Rattle.std.proofs.Common.{◌==◌, count_by, inl, inr, true, false}
use Rattle.std.specs.Prelude.{is_some}
use Rattle.std.proofs.lemmas.Bool.{cases_Bool}
use Rattle.std.proofs.lemmas.List.{length-take-le}
use Rattle.tomex_rvexec.specs.declared.step.Step.{Step}
use Rattle.tomex_rvexec.proofs.Fields.{bytes_of_memory}
use Rattle.tomex_config.specs.Configuration.{Configuration}
use Rattle.tomex_timing.specs.declared.demands.Demands.{Demands}
use Rattle.tomex_timing.specs.declared.next.Next.{Next}
use Rattle.tomex_timing.specs.declared.recent.Facts.{Facts}
use Rattle.tomex_timing.specs.declared.times.Done.{Done}
use Rattle.tomex_timing.specs.Ahead.{CanKeep, Held, IsHeldAfter, IsNextBy, IsReady}
use Rattle.tomex_timing.specs.Demands.{demand_after, demands_after}
use Rattle.tomex_timing.specs.History.{greatest_end, is_memory, last_issue}
use Rattle.tomex_timing.specs.Issue.{first_issue}
use Rattle.tomex_timing.specs.Recent.{facts_of, latest_after}
use Rattle.tomex_timing.specs.Search.{history}
use Rattle.tomex_timing.specs.Waiting.{past_branches, taken_from, waits_by}
use Rattle.tomex_timing.proofs.Demanded.{held_demands}
use Rattle.tomex_timing.proofs.Histories.{are_timed, length-history}
use Rattle.tomex_timing.proofs.Orders.{last_address_rises}
use Rattle.tomex_timing.proofs.Summary.{IsShown, holds_later}
use Rattle.tomex_timing.proofs.Turns.{IsStep, IsTurn, can_keep, held_turn, is_timed, issue_first, longer, small}
use Rattle.tomex_timing.proofs.Width.{none_later}
use Rattle.tomex_alike.specs.Alike.{issued_in}
use Rattle.tomex_states.specs.States.{AreNoted, IsWindow, Shows, count_with_next}
use Rattle.tomex_states.specs.declared.state.Window.{Window}
use Rattle.tomex_states.proofs.Ahead.{by_exact, from_first, not_early}
use Rattle.tomex_states.proofs.Exact.{exact_kept, exact_of}
use Rattle.tomex_states.proofs.Latest.{counted, first_later, latest_shows, one_more_of}
use Rattle.tomex_states.proofs.Settled.{settled_after}
use Rattle.tomex_states.proofs.Windows.{IsWith, window_more, window_stays}

module _ {config : Configuration} {steps : List Step} {i : ℕ} {x : Step} {f : Facts} {held : Held}
    (step : IsStep config steps i x f) (shown : Shows config (history config (take i steps)) held) where
  abbrev before : List Done
  before = history config (take i steps)

  -- the exact record of the steps before, with what else is held
  abbrev exact : Held
  exact = record held { latest = exact_of before }

  few_before : length before < 2 ^ 56
  few_before =
      let place : i < length steps = step.place in
      let few : length steps < 2 ^ 56 = step.few in
      let n : length before ≡ length (take i steps) = length-history config (take i steps) in
      let e : length (take i steps) ≡ i = length-take-le i steps (omega arith) in
      omega arith

  module _ {next : Next} (by : IsNextBy config held f next) where
    pub turn : IsTurn config steps i x f exact next
    turn = record {
      step = step;
      from = first_issue config before;
      soon = omega arith;
      shown = record { kept = exact_kept before; holds = shown.holds };
      by = by_exact shown.latest step.range by;
    }

    keeps : CanKeep f next.at held
    keeps =
        let place : i < length steps = step.place in
        let most : length steps < 2 ^ 56 = step.few in
        let low = small config steps i exact step.good (omega arith) (exact_kept before) in
        let k : CanKeep f next.at exact = can_keep turn (omega (arith, low.1)) in
        record {
          register = k.register;
          few = shown.latest.few;
          station = k.station;
          reserve = k.reserve;
        }

    exact_next : {after : Held} → IsHeldAfter f next.at held after → IsShown (history config (take (i + 1) steps))
        (record after { latest = latest_after f next.at (exact_of before) })
    exact_next {after} is_after = held_turn turn (record {
      latest = refl;
      table = is_after.table;
      ends = is_after.ends;
      accesses = is_after.accesses;
    })

    -- what is held after the step shows the steps up to it
    pub shows_next : {after : Held} → IsHeldAfter f next.at held after
        → Shows config (history config (take (i + 1) steps)) after
    shows_next {after} is_after =
        let more : List Done = record { step = x; at = next.at } ∷ before in
        let timed = are_timed config (take i steps) step.good in
        let is = is_timed turn in
        let range = rw step.facts at step.range in
        let with = rw step.facts at is_after in
        let exactly : IsShown (history config (take (i + 1) steps))
        (record after { latest = latest_after f next.at (exact_of before) }) = exact_next is_after in
        let whole : IsShown (record { step = x; at = next.at } ∷ before)
        (record after { latest = latest_after (facts_of x) next.at (exact_of before) }) =
        rw (longer turn, step.facts) at exactly in
        rw (longer turn) (record {
          latest = rw with.latest (latest_shows step.good timed shown.latest is range.dest few_before);
          holds = holds_later next.at.issue (first_issue config more) more after (issue_first config more) whole.holds;
          settled = settled_after step.good timed shown is range.dest with whole;
        })

    -- the waits and what is taken are those that an exact record shows, except for the wait for branches
    width_same : next.marks.from - past_branches held.latest ≡ next.marks.from - past_branches (exact_of before)
    width_same = rw (from_first shown.latest step.range by) shown.latest.width

    taken_same : count_with_next held.latest next.at.issue ≡ count_with_next (exact_of before) next.at.issue
    taken_same =
        let timed = are_timed config (take i steps) step.good in
        let late = not_early shown.latest step.range by in
        counted shown.latest next.at.issue timed late
        ∙ sym (one_more_of (issued_in before) next.at.issue (last_issue before)
        (count_by (λ d. d.at.issue == last_issue before) before) (λ e. ap (issued_in before) (sym e))
        (λ n. none_later config before next.at.issue timed (omega (arith, n, late, issue_first config before))))

    asked_same : (total : ℕ) (demands : Demands)
        → demands_after f (waits_by held.latest next.marks next.at) (taken_from held.latest next) total demands
        ≡ demands_after f (waits_by (exact_of before) next.marks next.at) (taken_from (exact_of before) next) total
        demands
    asked_same total demands =
        let waits = waits_by held.latest next.marks next.at in
        let taken = taken_from held.latest next in
        let noted : ℕ → ℕ → Demands = λ (t w : ℕ).
        record (demands_after f waits taken total demands) { width = demand_after demands.width t w } in
        ap (λ t. noted t waits.width) taken_same
        ∙ ap (λ w. noted (count_with_next (exact_of before) next.at.issue) w) width_same

    -- so the demands are noted
    pub noted_next : {demands noted : Demands} → noted ≡ demands_after f
        (waits_by held.latest next.marks next.at) (taken_from held.latest next) demands.total demands
        → AreNoted config (history config (take i steps)) demands
        → AreNoted config (history config (take (i + 1) steps)) noted
    noted_next {demands} {noted} is are =
        let total : greatest_end (history config (take (i + 1) steps)) ≡ max next.at.end (greatest_end before) =
        ap greatest_end (longer turn) in
        let same = is ∙ asked_same demands.total demands in
        rw (total, same) (held_demands turn demands are)

    pub window_next : {window after : Window} → IsWindow config before window
        → (is_some f.bytes ≡ true → IsWith next.at.finish window after) → (is_some f.bytes ≡ false → after ≡ window)
        → IsWindow config (history config (take (i + 1) steps)) after
    window_next {window} {after} is noted left =
        let timed = are_timed config (take i steps) step.good in
        let first = first_later step.good timed shown.latest (is_timed turn) in
        let rises = last_address_rises config before x next.at (is_timed turn) in
        let memory : is_some f.bytes ≡ is_memory x = rw step.facts (bytes_of_memory x) in
        rw (longer turn) (elim (cases_Bool (is_memory x)) [
          | inl e ↦ window_more config before x next.at window first rises is after e (noted (memory ∙ e))
          | inr e ↦ rw (left (memory ∙ e)) (window_stays config before x next.at window first rises is e)
        ])

  -- a step can be timed and kept
  pub ready_next : IsReady config held f
  ready_next =
      let place : i < length steps = step.place in
      let most : length steps < 2 ^ 56 = step.few in
      let low = small config steps i exact step.good (omega arith) (exact_kept before) in
      record {
        range = step.range;
        memory = rw step.facts (bytes_of_memory x);
        settled = shown.settled;
        small = omega (arith, low.0, shown.latest.end);
        few = shown.latest.few;
        keeps = λ next by. keeps by;
      }
