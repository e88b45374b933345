-- A state that is moved shows the history of the later place.
use Rattle.std.proofs.Common.{ℕ, ◌+◌, ◌-◌, ◌<◌, ◌≤◌, ◌≡◌, ◌∙◌, arith, refl, sym, ap, inl, inr, All, List}
use Rattle.std.proofs.Common.{map}
use Rattle.std.specs.Prelude.{nat_lt, slice_index}
use Rattle.std.proofs.lemmas.List.{get_or-map, length-map}
use Rattle.std.proofs.lemmas.Bool.{cases_Bool, cases_lt, le-ltb, lt-ltb}
use Rattle.tomex_rvdec.specs.Places.{place_of_unit}
use Rattle.tomex_rvexec.specs.declared.step.Step.{Step}
use Rattle.tomex_config.specs.Configuration.{Configuration, IsWithinLimits}
use Rattle.tomex_timing.specs.declared.times.Done.{Done}
use Rattle.tomex_timing.specs.declared.recent.Facts.{Facts}
use Rattle.tomex_timing.specs.declared.recent.Latest.{Latest}
use Rattle.tomex_reservations.specs.Reservations.{bus_line, end_at}
use Rattle.tomex_timing.specs.Ahead.{held_by}
use Rattle.tomex_timing.specs.History.{greatest_end}
use Rattle.tomex_timing.specs.Issue.{first_issue}
use Rattle.tomex_timing.specs.Recent.{AreFacts, facts_of, issue_from}
use Rattle.tomex_timing.specs.Station.{is_free}
use Rattle.tomex_timing.specs.Search.{history}
use Rattle.tomex_timing.specs.Summary.{HoldsFrom}
use Rattle.tomex_timing.proofs.Bound.{timed_by}
use Rattle.tomex_timing.proofs.Histories.{are_timed}
use Rattle.tomex_alike.specs.Alike.{LooksLike, first_access, lateness, results_in, starts_in}
use Rattle.tomex_alike.proofs.Totals.{first_by_end}
use Rattle.tomex_alike.proofs.UpToEnd.{access_by}
use Rattle.tomex_states.specs.Reuse.{IsMoved, access_from, accesses_under_way}
use Rattle.tomex_states.specs.States.{IsWindow, ShowsState}
use Rattle.tomex_states.specs.declared.state.State.{State}
use Rattle.tomex_states.specs.declared.state.Window.{Window}
use Rattle.tomex_states.proofs.Alike.{access_is}
use Rattle.tomex_states.proofs.Histories.{facts_back}
use Rattle.tomex_states.proofs.Later.{IsLater, access_later, latest_shown, settled_later, station_later, taken_before}
use Rattle.tomex_states.proofs.UnderWay.{AreFinishes, under_way_are, under_way_by}

-- the first cycle in which a next step may issue is at most the one after the greatest end
pub first_by : (config : Configuration) (latest : Latest) → latest.issue ≤ latest.end → latest.branch ≤ latest.end
    → issue_from config latest ≤ latest.end + 1
first_by config latest issue branch = elim (cases_Bool (nat_lt latest.issued config.width)) [
  | inl e ↦ rw e (omega arith)
  | inr e ↦ rw e (omega arith)
]

-- the finishes of the last accesses
module _ {config : Configuration} {by : ℕ} {g h : List Done} (later : IsLater config by g h) (window : Window)
    (shows : IsWindow config g window) where
  window_last : (i : ℕ) → i < 4
      → lateness config h i ≡ slice_index (map (λ finish. finish + by) window.finishes) i + 1 - first_access config h
  window_last i l =
      let e = get_or-map (λ finish. finish + by) window.finishes i 0 0 (omega (arith, shows.count)) in
      rw e (omega (arith, later.alike.accesses i l, shows.finishes i l, access_later later))

  pub window_shown : IsWindow config h (record window {
    finishes = map (λ finish. finish + by) window.finishes;
    older = window.older + by;
  })
  window_shown = record {
    finishes = window_last;
    older = λ i l. omega (arith, (later.alike.older i l).1);
    count = length-map window.finishes (λ finish. finish + by) ∙ shows.count;
  }

  finishes_are : AreFinishes (first_access config h) h (map (λ finish. finish + by) window.finishes)
  finishes_are =
      let long = length-map window.finishes (λ finish. finish + by) in
      record {
        last = λ i l. window_last i (omega (arith, shows.count));
        older = λ i l. (later.alike.older i (omega (arith, shows.count))).1;
      }

module _ {A : Type 0} (config : Configuration) (by : ℕ) (facts : List Facts) (a b : State A)
    (good : IsWithinLimits config) (moved : IsMoved config by facts a b) (g : List Done) (steps : List Step)
    (are : AreFacts steps facts) (shows : ShowsState config g a) (alike : LooksLike config 4 g (history config steps))
    (first : first_issue config (history config steps) ≡ first_issue config g + by) where
  abbrev h : List Done
  h = history config steps

  abbrev n : ℕ
  n = first_issue config g

  abbrev m : ℕ
  m = first_issue config h

  abbrev finishes : List ℕ
  finishes = map (λ finish. finish + by) a.window.finishes

  later : IsLater config by g h
  later =
      let by_g = first_by config a.recent.latest shows.held.settled.issue shows.held.settled.branch in
      let by_h = first_by_end config h good (are_timed config steps good) in
      record {
        alike = alike;
        first = first;
        end = omega (arith, alike.end, by_g, by_h, first, shows.held.latest.first, shows.held.latest.end);
      }

  accesses_are : b.recent.accesses.items
      ≡ accesses_under_way (first_access config h) finishes (map (λ d. facts_of d.step) h)
  accesses_are =
      let from : access_from config a + by ≡ first_access config h =
      omega (arith, access_is config g a shows, access_later later) in
      rw (moved.accesses, from, moved.window, facts_back config steps facts are) refl

  finishes_by : All (λ access. access.finish ≤ greatest_end h) b.recent.accesses.items
  finishes_by =
      let timed = timed_by config h good (are_timed config steps good) in
      let long = length-map a.window.finishes (λ finish. finish + by) in
      rw accesses_are (under_way_by (first_access config h) (greatest_end h) finishes (map (λ d. facts_of d.step) h)
      (λ i l under. omega (
        arith,
        window_last later a.window shows.window i (omega (arith, shows.window.count)),
        access_by (greatest_end h) h i timed,
      )))

  -- a cycle from the first one on, and its like after the other history
  cycle_here : (t : ℕ) → m ≤ t → n + (t - m) ≡ t - by
  cycle_here t l = omega (arith, first)

  cycle_there : (t : ℕ) → m ≤ t → m + (t - m) ≡ t
  cycle_there t l = omega arith

  holds : HoldsFrom m h b.recent.table b.recent.stations.ends b.recent.accesses.items
  holds = record {
    base = omega (arith, moved.base, shows.held.holds.base, first);
    starts = λ unit t l.
        taken_before by (place_of_unit unit) t a.recent.table b.recent.table moved.table (omega (arith, first))
        ∙ (shows.held.holds.starts unit (t - by) (omega (arith, first))
        ∙ (ap (starts_in unit g) (sym (cycle_here t (omega arith)))
        ∙ (alike.starts unit (t - m) (omega arith) ∙ ap (starts_in unit h) (cycle_there t (omega arith)))));
    results = λ t l.
        taken_before by bus_line t a.recent.table b.recent.table moved.table (omega (arith, first))
        ∙ (shows.held.holds.results (t - by) (omega (arith, first))
        ∙ (ap (results_in g) (sym (cycle_here t (omega arith)))
        ∙ (alike.results (t - m) (omega arith) ∙ ap (results_in h) (cycle_there t (omega arith)))));
    stations = λ pool t k pos l few.
        ap (λ x. is_free pool h x k) (sym (cycle_there t l))
        ∙ (sym (alike.free pool (t - m) k)
        ∙ (shows.held.holds.stations pool (n + (t - m)) k (omega arith) (omega arith) few
        ∙ rw (moved.ends, station_later by k pool a.recent.stations.ends shows.held.holds.size few)
        (earlier (end_at a.recent.stations.ends pool k) (n + (t - m)) t (omega (arith, first)))));
    size = rw moved.ends (length-map a.recent.stations.ends (λ end. end + by) ∙ shows.held.holds.size);
    conflicts = λ s t l k. rw accesses_are (under_way_are s (first_access config h) t finishes h (omega arith)
        (finishes_are later a.window shows.window));
    finishes = finishes_by;
  }
    where
      earlier : (x y t : ℕ) → y + by ≡ t → nat_lt x y ≡ nat_lt (x + by) t
      earlier x y t e = elim (cases_lt x y) [
        | inl l ↦ rw (lt-ltb x y l, lt-ltb (x + by) t (omega arith)) refl
        | inr l ↦ rw (le-ltb x y l, le-ltb (x + by) t (omega arith)) refl
      ]

  pub state_moved : ShowsState config h b
  state_moved =
      let latest = latest_shown later a.recent.latest shows.held.latest shows.held.settled.zero in
      let end : b.recent.latest.end ≡ greatest_end h =
      rw moved.latest (omega (arith, shows.held.latest.end, later.end)) in
      let finishes : All (λ access. access.finish ≤ b.recent.latest.end) b.recent.accesses.items =
      rw end finishes_by in
      record {
        held = record {
          latest = rw moved.latest latest;
          holds = holds;
          settled = settled_later config by (held_by a.recent) (held_by b.recent) shows.held.settled
              shows.held.latest.count shows.held.holds.size moved.latest moved.base moved.table moved.ends finishes;
        };
        window = rw moved.window (window_shown later a.window shows.window);
      }
