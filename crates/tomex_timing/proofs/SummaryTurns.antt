-- One step more: what is held then shows the longer history.
use Rattle.std.proofs.Common.{ℕ, ◌<◌, ◌≤◌, ◌≡◌, ◌≢◌, ◌∙◌, Bool, true, false, arith, refl, inl, inr, List, [], ◌∷◌}
use Rattle.std.proofs.Common.{Option, Some, None, length, max}
use Rattle.std.specs.Prelude.{nat_lt, nat_le, ◌==◌, not, ◌&&◌, is_some, slice_set, MatchOption}
use Rattle.std.specs.List.{filter, list_all, All}
use Rattle.std.proofs.lemmas.Bool.{and_right, cases_Bool, and_parts, eq-eqb, eqb-true, lt-ltb, leb-false, or_right}
use Rattle.std.proofs.lemmas.List.{get_or-set_same, get_or-set_other, length-set}
use Rattle.std.proofs.lemmas.List.Elements.{All-filter, All-push, All-weaker}
use Rattle.std.proofs.lemmas.List.Folds.{list_all-append}
use Rattle.std.proofs.lemmas.List.Sums.{sum_by-cons}
use Rattle.std.proofs.lemmas.Bool.Decides.{nat_tests}
use Rattle.tomex_rvdec.specs.Places.{place_of_pool}
use Rattle.tomex_rvdec.specs.declared.pool.PoolId.{PoolId}
use Rattle.tomex_rvexec.specs.Steps.{step_pool, step_unit, step_dest, bytes_of, is_in, is_number, is_store}
use Rattle.tomex_rvexec.specs.declared.step.ByteRange.{ByteRange}
use Rattle.tomex_rvexec.specs.declared.step.Step.{Step}
use Rattle.tomex_config.specs.Configuration.{Configuration, stations_of}
use Rattle.tomex_timing.specs.declared.accesses.Access.{Access}
use Rattle.tomex_timing.specs.declared.next.Next.{Next}
use Rattle.tomex_timing.specs.declared.times.Done.{Done}
use Rattle.tomex_timing.specs.declared.times.Times.{Times}
use Rattle.tomex_timing.specs.declared.recent.Facts.{Facts}
use Rattle.tomex_reservations.specs.Reservations.{end_at, station_place}
use Rattle.tomex_timing.specs.Ahead.{Held, IsHeldAfter, TakesStation, accesses_with, ends_with, is_past, one}
use Rattle.tomex_timing.specs.History.{is_of, greatest_end}
use Rattle.tomex_timing.specs.Laws.{InReach}
use Rattle.tomex_timing.specs.Recurrence.{are_conflicts_finished}
use Rattle.tomex_timing.specs.Station.{is_free}
use Rattle.tomex_timing.specs.Recent.{facts_of}
use Rattle.tomex_timing.proofs.Bools.{and_assoc, and_swap, and_true}
use Rattle.tomex_timing.proofs.Summary.{IsShown, kept_on}
use Rattle.tomex_timing.proofs.Limits.{stations_high}
use Rattle.tomex_rvdec.proofs.Places.{pool_low}
use Rattle.tomex_timing.proofs.NextTimed.{ComesNext, first_issued, next_timed}
use Rattle.tomex_timing.proofs.Orders.{dest_unit, last_address_rises, reach}

-- the stations: the step takes one that had ended
place_apart : (p q : PoolId) (m n : ℕ) → m < 16 → n < 16 → ((place_of_pool p == place_of_pool q) && (m == n)) ≡ false
    → station_place q n ≢ station_place p m
place_apart p q m n l k apart e =
    let a : place_of_pool p ≡ place_of_pool q = omega arith in
    let b : m ≡ n = omega arith in
    let t : ((place_of_pool p == place_of_pool q) && (m == n)) ≡ true =
    rw (eq-eqb (place_of_pool p) (place_of_pool q) a, eq-eqb m n b) refl in
    absurd (cc)

place_in : (p : PoolId) (m : ℕ) (taken : List ℕ) → m < 16 → length taken ≡ 96 → station_place p m < length taken
place_in p m taken l size = omega (arith, pool_low p)

station_turn : (pool : PoolId) (x : Option PoolId) (station : Option ℕ) (taken : List ℕ) (free : Bool)
    (issue end t n : ℕ) → issue ≤ end → n < 16 → length taken ≡ 96
    → MatchOption x (station ≡ None) (λ p. (m : ℕ) × (station ≡ Some m) × (m < 16) × (end_at taken p m < issue))
    → free ≡ nat_lt (end_at taken pool n) t → (not ((is_in pool x && nat_le t end) && is_number station n) && free)
    ≡ nat_lt (end_at (ends_with x station end taken) pool n) t
station_turn pool None station taken free issue end t n later l size takes e = e
station_turn pool (Some p) station taken free issue end t n later l size takes e =
    let m : ℕ = takes.0 in
    let low : takes.0 < 16 = takes.2 in
    let before : end_at taken p takes.0 < issue = takes.3 in
    rw (
      takes.1,
      and_assoc (place_of_pool p == place_of_pool pool) (nat_le t end) (takes.0 == n),
      and_swap (nat_le t end) (takes.0 == n),
      ← and_assoc (place_of_pool p == place_of_pool pool) (takes.0 == n) (nat_le t end),
    ) (elim (cases_Bool ((place_of_pool p == place_of_pool pool) && (takes.0 == n))) [
      | inl y ↦
          let two = and_parts (place_of_pool p == place_of_pool pool) (takes.0 == n) y in
          let a : place_of_pool p ≡ place_of_pool pool = eqb-true (place_of_pool p) (place_of_pool pool) two.0 in
          let b : takes.0 ≡ n = eqb-true takes.0 n two.1 in
          let at : station_place pool n ≡ station_place p takes.0 = omega arith in
          let here : end_at (slice_set taken (station_place p takes.0) end) pool n ≡ end =
          rw at (get_or-set_same taken (station_place p takes.0) end 0 (place_in p takes.0 taken low size)) in
          let was : end_at taken pool n < issue = rw at before in
          rw (y, here, e) (held end t (end_at taken pool n) (omega arith))
      | inr y ↦
          let there : end_at (slice_set taken (station_place p takes.0) end) pool n ≡ end_at taken pool n =
          get_or-set_other taken (station_place p takes.0) (station_place pool n) end 0
          (place_apart p pool takes.0 n low l y) in
          rw (y, there) e
    ])
  where
    held : (end t before : ℕ) → before ≤ end → (not (true && nat_le t end) && nat_lt before t) ≡ nat_lt end t
    held end t before l = grind (arith, nat_tests)

-- the accesses: those that are let go of have finished before the cycle
all_kept : (p q : Access → Bool) (xs : List Access) → ((x : Access) → q x ≡ false → p x ≡ true)
    → list_all p (filter q xs) ≡ list_all p xs
all_kept p q [] pass = refl
all_kept p q (x ∷ xs) pass = elim (cases_Bool (q x)) [
  | inl y ↦ rw (y, all_kept p q xs pass) refl
  | inr y ↦ rw (y, pass x y) (all_kept p q xs pass)
]

past_let_go : (f : Facts) (issue t : ℕ) (a : Access) → issue < t → nat_le issue a.finish ≡ false → is_past f t a ≡ true
past_let_go f issue t a l e =
    let k : a.finish < issue = leb-false issue a.finish e in
    or_right _ (nat_lt a.finish t) (lt-ltb a.finish t (omega arith))

accesses_turn : (y s : Step) (at : Times) (h : List Done) (x : Option ByteRange) (accesses : List Access)
    (t : ℕ) → bytes_of s ≡ x → at.issue < t → list_all (is_past (facts_of y) t) accesses ≡ are_conflicts_finished h y t
    → list_all (is_past (facts_of y) t) (accesses_with x (facts_of s) at accesses)
    ≡ are_conflicts_finished (record { step = s; at = at } ∷ h) y t
accesses_turn y s at h None accesses t of l e = rw of e
accesses_turn y s at h (Some bytes) accesses t of l e =
    rw (
      of,
      list_all-append (is_past (facts_of y) t) (filter (λ a. nat_le at.issue a.finish) accesses)
          (record { bytes = bytes; is_store = is_store s; finish = at.finish } ∷ []),
      all_kept (is_past (facts_of y) t) (λ a. nat_le at.issue a.finish) accesses
          (λ a z. past_let_go (facts_of y) at.issue t a l z),
      e,
      ← and_true (is_past (facts_of y) t (record { bytes = bytes; is_store = is_store s; finish = at.finish })),
    ) (and_swap (are_conflicts_finished h y t)
    (is_past (facts_of y) t (record { bytes = bytes; is_store = is_store s; finish = at.finish })))

finishes_turn : (f : Facts) (at : Times) (x : Option ByteRange) (g : ℕ) (accesses : List Access) → at.finish ≤ at.end
    → All (λ a. a.finish ≤ g) accesses → All (λ a. a.finish ≤ max at.end g) (accesses_with x f at accesses)
finishes_turn f at None g accesses l h =
    All-weaker (λ a. a.finish ≤ g) (λ a. a.finish ≤ max at.end g) (λ a k. omega arith) accesses h
finishes_turn f at (Some bytes) g accesses l h =
    let later : All (λ a. a.finish ≤ max at.end g) accesses =
    All-weaker (λ a. a.finish ≤ g) (λ a. a.finish ≤ max at.end g) (λ a k. omega arith) accesses h in
    All-push (λ a. a.finish ≤ max at.end g) (filter (λ a. nat_le at.issue a.finish) accesses)
    (record { bytes = bytes; is_store = f.is_store; finish = at.finish })
    (All-filter (λ a. nat_le at.issue a.finish) (λ a. a.finish ≤ max at.end g) accesses later) (omega arith)

-- the station that a step takes had been given back before
had_ended : (config : Configuration) (taken : List ℕ) (x : Option PoolId) (from issue : ℕ) (station : Option ℕ)
    → ((p : PoolId) → stations_of config p ≤ 16) → TakesStation config taken x from issue station
    → MatchOption x (station ≡ None) (λ p. (m : ℕ) × (station ≡ Some m) × (m < 16) × (end_at taken p m < issue))
had_ended config taken None from issue station high takes = takes.1
had_ended config taken (Some p) from issue station high takes =
    let there : takes.0 < stations_of config p = takes.2.there in
    (takes.0, takes.1, omega (arith, high p), takes.2.free)

size_after : (x : Option PoolId) (station : Option ℕ) (end : ℕ) (taken : List ℕ) → length taken ≡ 96
    → length (ends_with x station end taken) ≡ 96
size_after None station end taken size = size
size_after (Some p) None end taken size = size
size_after (Some p) (Some n) end taken size = length-set taken (station_place p n) end ∙ size

-- a result's step uses a unit
bus_same : (s : Step) (b : Bool) → (is_some (step_unit s) && is_some (step_dest s) && b) ≡ (is_some (step_dest s) && b)
bus_same s b = elim (cases_Bool (is_some (step_dest s))) [
  | inl y ↦ rw (y, dest_unit s y) refl
  | inr y ↦ rw (y, and_right (is_some (step_unit s)) false refl) refl
]

module _ {config : Configuration} {h : List Done} {held : Held} {s : Step} {next : Next}
    (c : ComesNext config h held s next) where
  pub shown_turn : {after : Held} → IsHeldAfter (facts_of s) next.at held after
      → IsShown (record { step = s; at = next.at } ∷ h) after
  shown_turn is_after =
      let is = next_timed c in
      let l : c.from ≤ next.at.issue = omega (arith, c.soon, first_issued c) in
      let rises = last_address_rises config h s next.at is in
      let r : InReach (greatest_end h) next.at =
      reach config (record { step = s; at = next.at }) h c.good (is, c.timed) in
      let shown = c.shown.holds in
      let tabled = is_after.table in
      record {
        kept = rw is_after.latest
            (kept_on config h s next.at held.latest c.range.dest c.timed c.shown.kept is);
        holds = record {
          base = tabled.base;
          starts = λ unit t m. tabled.starts unit t (omega arith) ∙ rw (
            shown.starts unit t (omega arith),
            sum_by-cons (λ d. one (is_of unit (step_unit d.step) && d.at.start == t))
                (record { step = s; at = next.at }) h,
          ) (omega arith);
          results = λ t m. tabled.results t (omega arith) ∙ rw (
            bus_same s (next.at.end == t),
            shown.results t (omega arith),
            sum_by-cons (λ d. one (is_some (step_dest d.step) && d.at.end == t)) (record { step = s; at = next.at }) h,
          ) (omega arith);
          stations = λ pool t n pos m k. rw is_after.ends
              (station_turn pool (step_pool s) next.at.station held.ends (is_free pool h t n) next.at.issue next.at.end
              t n r.issue k shown.size (had_ended config held.ends (step_pool s) next.marks.from next.at.issue
              next.at.station (λ p. stations_high config p c.good) c.by.issue)
              (shown.stations pool t n pos (omega arith) k));
          size = rw is_after.ends
              (size_after (step_pool s) next.at.station next.at.end held.ends shown.size);
          conflicts = λ y t m k. rw is_after.accesses (accesses_turn y s next.at h (bytes_of s) held.accesses t refl
              (omega arith) (shown.conflicts y t (omega arith) (omega arith)));
          finishes = rw is_after.accesses (finishes_turn (facts_of s) next.at (bytes_of s) (greatest_end h)
              held.accesses r.finish shown.finishes);
        };
      }
