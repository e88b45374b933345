-- What is held, a number of cycles later.
use Rattle.std.proofs.Common.{ℕ, zero, suc, ◌+◌, ◌-◌, ◌<◌, ◌≤◌, ◌≡◌, ◌∙◌, arith, refl, inl}
use Rattle.std.proofs.Common.{inr, All, List, length, map, set}
use Rattle.std.specs.Prelude.{◌==◌, nat_lt, slice_index}
use Rattle.std.proofs.lemmas.Bool.{cases_Bool}
use Rattle.std.proofs.lemmas.Bool.Decides.{nat_tests}
use Rattle.std.proofs.lemmas.List.{get_or-map, get_or-set_same, get_or-set_other, length-map, length-set}
use Rattle.tomex_rvdec.specs.Places.{place_of_unit}
use Rattle.tomex_rvdec.specs.declared.pool.PoolId.{PoolId}
use Rattle.tomex_rvdec.proofs.Places.{pool_low}
use Rattle.tomex_config.specs.Configuration.{Configuration}
use Rattle.tomex_reservations.specs.Reservations.{Reserved, bus_line, end_at, station_place, taken_at}
use Rattle.tomex_timing.specs.declared.recent.Latest.{Latest}
use Rattle.tomex_timing.specs.declared.times.Done.{Done}
use Rattle.tomex_timing.specs.Ahead.{Held, IsSettledBy}
use Rattle.tomex_timing.specs.History.{greatest_end}
use Rattle.tomex_timing.specs.Issue.{first_issue}
use Rattle.tomex_timing.specs.Recent.{issue_from}
use Rattle.tomex_timing.specs.Waiting.{past_branches}
use Rattle.tomex_alike.specs.Alike.{LooksLike, end_ahead, first_access}
use Rattle.tomex_states.specs.Reuse.{latest_later}
use Rattle.tomex_states.specs.States.{ShowsLatest, count_with_next}

-- the latest cycles
pub issue_later : (config : Configuration) (by : ℕ) (latest : Latest)
    → issue_from config (latest_later by latest) ≡ issue_from config latest + by
issue_later config by latest = elim (cases_Bool (nat_lt latest.issued config.width)) [
  | inl e ↦ rw e (omega arith)
  | inr e ↦ rw e (omega arith)
]

branches_later : (by : ℕ) (latest : Latest) → past_branches (latest_later by latest) ≡ past_branches latest + by
branches_later by latest = omega arith

same_test : (by s t : ℕ) → (s + by == t + by) ≡ (s == t)
same_test by s t = grind (arith, nat_tests)

count_later : (by t : ℕ) (latest : Latest)
    → count_with_next (latest_later by latest) (t + by) ≡ count_with_next latest t
count_later by t latest = rw (same_test by t latest.issue) refl

written_later : (by r : ℕ) (ends : List ℕ) → length ends ≡ 32 → 0 < r → r < 32
    → slice_index (set (map (λ end. end + by) ends) 0 0) r ≡ slice_index ends r + by
written_later by r ends size pos l =
    get_or-set_other (map (λ end. end + by) ends) 0 r 0 0 (λ e. absurd (omega arith))
    ∙ get_or-map (λ end. end + by) ends r 0 0 (omega arith)

never_written : (by : ℕ) (ends : List ℕ) → length ends ≡ 32
    → slice_index (set (map (λ end. end + by) ends) 0 0) 0 ≡ 0
never_written by ends size =
    let long = length-map ends (λ end. end + by) in
    get_or-set_same (map (λ end. end + by) ends) 0 0 0 (omega arith)

-- A history looks like another one, and the next step may issue a number of cycles later.
pub record IsLater (config : Configuration) (by : ℕ) (g h : List Done) : Type 0 where
  pub alike : LooksLike config 4 g h
  pub first : first_issue config h ≡ first_issue config g + by
  pub end : greatest_end h ≡ greatest_end g + by

module _ {config : Configuration} {by : ℕ} {g h : List Done} (later : IsLater config by g h) where
  pub access_later : first_access config h ≡ first_access config g + by
  access_later = omega (arith, later.alike.address, later.first)

  module _ (latest : Latest) (shows : ShowsLatest config g latest) (zero_end : slice_index latest.ends 0 ≡ 0) where
    end_later : (r : ℕ) → r < 32
        → slice_index (latest_later by latest).ends r - first_issue config h ≡ end_ahead config h r
    end_later zero l =
        let e = never_written by latest.ends shows.count in
        rw e (omega (arith, later.alike.ends 0, shows.ends 0 l))
    end_later (suc r) l =
        let e = written_later by (suc r) latest.ends shows.count (omega arith) l in
        rw e (omega (arith, later.first, later.alike.ends (suc r), shows.ends (suc r) l))

    pub latest_shown : ShowsLatest config h (latest_later by latest)
    latest_shown = record {
      first = omega (arith, issue_later config by latest, shows.first, later.first);
      issued = rw (later.first, count_later by (first_issue config g) latest) (rw (← later.first)
          (omega (arith, shows.issued, later.alike.issued)));
      width = rw (branches_later by latest) (omega (arith, shows.width, later.alike.width, later.first));
      end = omega (arith, shows.end, later.end);
      address = omega (arith, shows.address, later.alike.address, later.first);
      ends = end_later;
      count = length-set (map (λ end. end + by) latest.ends) 0 0 ∙ (length-map latest.ends (λ end. end + by)
          ∙ shows.count);
      few = shows.few;
    }

-- a table's cycles, and the stations' ends
pub taken_before : (by l t : ℕ) (a b : Reserved) → ((l t : ℕ) → taken_at b l (t + by) ≡ taken_at a l t) → by ≤ t
    → taken_at b l t ≡ taken_at a l (t - by)
taken_before by l t a b moved m =
    let e : (t - by) + by ≡ t = omega arith in
    rw e at (moved l (t - by))

pub station_later : (by n : ℕ) (pool : PoolId) (ends : List ℕ) → length ends ≡ 96 → n < 16
    → end_at (map (λ end. end + by) ends) pool n ≡ end_at ends pool n + by
station_later by n pool ends size l =
    get_or-map (λ end. end + by) ends (station_place pool n) 0 0 (omega (arith, pool_low pool))

-- nothing is past the greatest end
pub settled_later : (config : Configuration) (by : ℕ) (before after : Held) → IsSettledBy before
    → length before.latest.ends ≡ 32 → length before.ends ≡ 96 → after.latest ≡ latest_later by before.latest
    → after.table.base ≡ before.table.base + by
    → ((l t : ℕ) → taken_at after.table l (t + by) ≡ taken_at before.table l t)
    → after.ends ≡ map (λ end. end + by) before.ends → All (λ a. a.finish ≤ after.latest.end) after.accesses
    → IsSettledBy after
settled_later config by before after settled registers size latest base table ends finishes = record {
  base = rw (base, latest) (omega (arith, settled.base));
  starts = λ unit t l.
      let m : before.latest.end + by < t = rw latest at l in
      taken_before by (place_of_unit unit) t before.table after.table table (omega arith)
      ∙ settled.starts unit (t - by) (omega arith);
  results = λ t l.
      let m : before.latest.end + by < t = rw latest at l in
      taken_before by bus_line t before.table after.table table (omega arith) ∙ settled.results (t - by) (omega arith);
  stations = λ pool n l.
      rw (ends, latest, station_later by n pool before.ends size l) (omega (arith, settled.stations pool n l));
  finishes = finishes;
  ends = λ r l. rw latest (written_by_end r l);
  zero = rw latest (never_written by before.latest.ends registers);
  issue = rw latest (omega (arith, settled.issue));
  branch = rw latest (omega (arith, settled.branch));
  address = rw latest (omega (arith, settled.address));
}
  where
    written_by_end : (r : ℕ) → r < 32
        → slice_index (set (map (λ end. end + by) before.latest.ends) 0 0) r ≤ before.latest.end + by
    written_by_end zero l = rw (never_written by before.latest.ends registers) (omega arith)
    written_by_end (suc r) l =
        rw (written_later by (suc r) before.latest.ends registers (omega arith) l)
        (omega (arith, settled.ends (suc r) l))
