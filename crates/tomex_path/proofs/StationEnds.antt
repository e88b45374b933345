-- An issue that waits for a station comes in the cycle after the end of the step that had the station last.
use Rattle.std.proofs.Common.{ℕ, ◌+◌, ◌-◌, ◌<◌, ◌≤◌, ◌≡◌, ◌⊎◌, ◌∙◌, sym, Bool, true, false, arith, refl, inl, inr, ap}
use Rattle.std.proofs.Common.{List, [], ◌∷◌, Option, Some, None, nat_lt, nat_le, not, ◌&&◌, count_by}
use Rattle.std.proofs.lemmas.Bool.{cases_Bool, cases_lt, and_parts, eqb-true, le-leb, lt-ltb}
use Rattle.std.proofs.lemmas.Bool.Decides.{nat_tests}
use Rattle.tomex_rvdec.specs.declared.pool.PoolId.{PoolId}
use Rattle.tomex_rvexec.specs.Steps.{is_in, is_number, step_pool}
use Rattle.tomex_config.specs.Configuration.{Configuration, IsWithinLimits, stations_of}
use Rattle.tomex_config.specs.declared.part.Part.TheVariants.{Stations}
use Rattle.tomex_timing.specs.declared.times.Done.{Done}
use Rattle.tomex_timing.specs.History.{last_issue}
use Rattle.tomex_timing.specs.Issue.{first_issue}
use Rattle.tomex_timing.specs.Needs.{waits_of}
use Rattle.tomex_timing.specs.Recurrence.{AreTimed, are_branches_finished, can_issue_another}
use Rattle.tomex_timing.specs.Station.{has_station, is_free, is_held}
use Rattle.tomex_timing.specs.Tables.{tag_at, tag_of}
use Rattle.tomex_timing.proofs.Bools.{last_fails}
use Rattle.tomex_timing.proofs.Charges.{station_waits}
use Rattle.tomex_timing.proofs.Holders.{number_low, stations_apart, stations_fit}
use Rattle.tomex_timing.proofs.Limits.{pool_is}
use Rattle.tomex_timing.proofs.Splits.{issue_split, slot_range}
use Rattle.tomex_timing.proofs.Taken.{peak_within}
use Rattle.tomex_timing.proofs.Width.{issue_from}
use Rattle.tomex_path.specs.declared.event.Holder.TheVariants.{Station}
use Rattle.tomex_path.proofs.Cases.{IssueCase, IssuesAfterStation}
use Rattle.tomex_path.proofs.Chain.{holder_at}
use Rattle.tomex_path.proofs.Issues.{from_low, issue_case}

-- a step of the pool with the number, held in a cycle and not in the next, ends in it
held_until : (a b : Bool) (s end : ℕ) → (a && b) ≡ true → not ((a && nat_le s end) && b) ≡ false
    → not ((a && nat_le (s + 1) end) && b) ≡ true → end ≡ s
held_until a b s end own busy free = grind (arith, nat_tests)

not_own : (a b c : Bool) → (a && b) ≡ false → not ((a && c) && b) ≡ true
not_own true true c e = absurd (cc)
not_own true false true e = refl
not_own true false false e = refl
not_own false b c e = refl

first_fails : (x y : Bool) → y ≡ true → (x && y) ≡ false → x ≡ false
first_fails true y e f = cc
first_fails false y e f = refl

number_is : (x : Option ℕ) (n : ℕ) → is_number x n ≡ true → x ≡ Some n
number_is None n e = absurd (cc)
number_is (Some m) n e = ap Some (eqb-true m n e)

-- of a station that is free in a cycle and wasn't in the one before, the last step that had it ended in that one
station_end : (config : Configuration) (h : List Done) (pool : PoolId) (n s : ℕ) → AreTimed config h → last_issue h ≤ s
    → is_free pool h s n ≡ false → is_free pool h (s + 1) n ≡ true
    → holder_at (Station (record { pool = pool; number = n })) h ≡ s
station_end config [] pool n s timed l busy free = absurd (cc)
station_end config (d ∷ h) pool n s timed l busy free =
    let late = and_parts (not (is_held pool (s + 1) d && is_number d.at.station n)) (is_free pool h (s + 1) n) free in
    elim (cases_Bool (is_in pool (step_pool d.step) && is_number d.at.station n)) [
      | inl e ↦
          let two = and_parts (is_in pool (step_pool d.step)) (is_number d.at.station n) e in
          let before : is_free pool h s n ≡ true =
          stations_apart config d h pool n s timed.0 (pool_is pool (step_pool d.step) two.0)
          (number_is d.at.station n two.1) l in
          let own : not (is_held pool s d && is_number d.at.station n) ≡ false = first_fails _ _ before busy in
          let end : d.at.end ≡ s = held_until (is_in pool (step_pool d.step)) (is_number d.at.station n) s d.at.end e
          own late.0 in
          rw e end
      | inr e ↦
          let skip : not (is_held pool s d && is_number d.at.station n) ≡ true =
          not_own (is_in pool (step_pool d.step)) (is_number d.at.station n) (nat_le s d.at.end) e in
          let k : last_issue h ≤ d.at.issue = issue_from config h d.step d.at.issue timed.0.issue.0 in
          rw e (station_end config h pool n s timed.1 (omega arith) (rw skip at busy) late.1)
    ]

pool_cases : (x : Option PoolId) → (x ≡ None) ⊎ ((pool : PoolId) × (x ≡ Some pool))
pool_cases None = inl refl
pool_cases (Some pool) = inr (pool, refl)

tag_made : (x : Option PoolId) (s : Option ℕ) (pool : PoolId) (n : ℕ) → x ≡ Some pool → s ≡ Some n
    → tag_at x s ≡ Some (record { pool = pool; number = n })
tag_made x s pool n e f = rw (e, f) refl

pub station_case : (config : Configuration) (d : Done) (older : List Done) → IsWithinLimits config
    → AreTimed config (d ∷ older) → 0 < (waits_of config older d).station → IssuesAfterStation config d older
station_case config d older good timed waits =
    let low = from_low config good d older timed in
    let slot = slot_range config older in
    let sw = station_waits config older d good timed.1 low in
    let early : first_issue config older ≤ d.at.issue - 1 = omega arith in
    let rest = issue_split config older (d.at.issue - 1) good timed.1 in
    let none : has_station config older (step_pool d.step) (d.at.issue - 1) ≡ false =
    last_fails ((nat_lt 0 (d.at.issue - 1) && can_issue_another config older (d.at.issue - 1))
    && are_branches_finished older (d.at.issue - 1)) (has_station config older (step_pool d.step) (d.at.issue - 1))
    (sym rest ∙ le-leb (first_issue config older) (d.at.issue - 1) early)
    (timed.0.issue.1 (d.at.issue - 1) (omega arith)) in
    elim (pool_cases (step_pool d.step)) [
      | inl e ↦ let f : true ≡ false = rw e at none in absurd (cc)
      | inr p ↦
          let is = rw p.1 at timed.0.station in
          let tag : tag_of d ≡ Some (record { pool = p.0; number = is.0 }) =
          tag_made (step_pool d.step) d.at.station p.0 is.0 p.1 is.1 in
          let full : has_station config older (Some p.0) (d.at.issue - 1) ≡ false = rw p.1 at none in
          let number = number_low config d older p.0 is.0 timed.0 p.1 is.1 in
          let next : d.at.issue - 1 + 1 ≡ d.at.issue = omega arith in
          let free : is_free p.0 older (d.at.issue - 1 + 1) is.0 ≡ true = rw next is.2.0 in
          let busy : is_free p.0 older (d.at.issue - 1) is.0 ≡ false =
          taken p.0 is.0 number full in
          let end : holder_at (Station (record { pool = p.0; number = is.0 })) older ≡ d.at.issue - 1 =
          station_end config older p.0 is.0 (d.at.issue - 1) timed.1 (omega arith) busy free in
          record {
            tag = record { pool = p.0; number = is.0 };
            own = tag;
            waits = waits;
            is = rw (lt-ltb 0 (waits_of config older d).station waits, tag) refl;
            before = omega arith;
          }
    ]
  where
    -- if no station is free, this one isn't
    taken : (pool : PoolId) (n : ℕ) → n < stations_of config pool
        → has_station config older (Some pool) (d.at.issue - 1) ≡ false
        → is_free pool older (d.at.issue - 1) n ≡ false
    taken pool n number full = elim (cases_Bool (is_free pool older (d.at.issue - 1) n)) [
      | inl e ↦
          let low = from_low config good d older timed in
          let slot = slot_range config older in
          let sw = station_waits config older d good timed.1 low in
          let few : count_by (is_held pool (d.at.issue - 1)) older < stations_of config pool =
          stations_fit config older pool (d.at.issue - 1) n (stations_of config pool) timed.1 (omega arith) e number
          (peak_within config older (Stations pool) timed.1) in
          let f : true ≡ false = rw (lt-ltb _ (stations_of config pool) few) at full in absurd (cc)
      | inr e ↦ e
    ]

pub issue_cases : (config : Configuration) (d : Done) (older : List Done) → IsWithinLimits config
    → AreTimed config (d ∷ older) → IssueCase config d older
issue_cases config d older good timed = elim (cases_lt 0 (waits_of config older d).station) [
  | inl l ↦ inl (station_case config d older good timed l)
  | inr l ↦ issue_case config good d older timed (omega arith)
]
