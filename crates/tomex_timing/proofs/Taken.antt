-- No history takes more of a part than its configuration has; and what steps wait for is all in use in the cycles in
-- which they wait for it, so then the history takes all that there is.
use Rattle.std.proofs.Common.{ℕ, ◌+◌, ◌<◌, ◌≤◌, ◌≡◌, true, arith, refl, inl, inr, List, [], ◌∷◌, Some, zero, suc, ◌-◌}
use Rattle.std.proofs.Common.{Bool, false, max, ◌==◌, ◌&&◌, count_by, is_some, nat_lt, nat_le, not}
use Rattle.std.proofs.lemmas.Bool.{cases_Bool, cases_order, and_from, and_parts, eqb-true, le-leb, lt-ltb, ltb-false}
use Rattle.std.proofs.lemmas.Bool.{MatchBool-at_false, not-true}
use Rattle.tomex_rvdec.specs.declared.pool.PoolId.{PoolId}
use Rattle.tomex_rvdec.specs.declared.pool.UnitId.{UnitId}
use Rattle.tomex_rvexec.specs.Steps.{step_pool, step_unit, step_dest, is_in}
use Rattle.tomex_config.specs.Configuration.{Configuration, stations_of, option_of}
use Rattle.tomex_config.specs.declared.part.Part.{Part}
use Rattle.tomex_config.specs.declared.part.Part.TheVariants.{Stations, Units, Buses, Width}
use Rattle.tomex_timing.specs.declared.times.Done.{Done}
use Rattle.tomex_timing.specs.History.{is_of, cycle_of, last_issue}
use Rattle.tomex_timing.specs.Laws.{PeakIsWithin, StalledPartsAreFull}
use Rattle.tomex_timing.specs.Needs.{peak, taken_by, cycles_that, lacks_width, lacks_station, lacks_unit}
use Rattle.tomex_config.specs.Parts.{count_of}
use Rattle.tomex_timing.specs.Needs.{stalls, waits_for, waits_of}
use Rattle.tomex_timing.specs.Recurrence.{IsLeast, IsTimed, can_end, AreTimed, can_issue_another, are_branches_finished}
use Rattle.tomex_timing.specs.Recurrence.{has_operands, are_conflicts_finished, has_unit, has_bus}
use Rattle.tomex_timing.specs.Station.{has_station, is_held}
use Rattle.tomex_timing.proofs.Holders.{number_low, stations_held}
use Rattle.tomex_timing.proofs.Orders.{result_end}
use Rattle.tomex_timing.proofs.Limits.{pool_is, unit_is}
use Rattle.tomex_timing.proofs.Tests.{IsAtOnce, at_once, can_end_is, can_issue_is, cases_unit, operation}
use Rattle.std.specs.List.{range_with_len}
use Rattle.std.proofs.lemmas.List.Sums.{sum_by-cons}
use Rattle.tomex_timing.proofs.Bools.{last_fails}

module _ (config : Configuration) (older : List Done) (d : Done) where
  taken_within : (part : Part) → IsTimed config older d.step d.at → taken_by part older d ≤ count_of config part
  taken_within (Stations pool) is = elim (cases_Bool (is_in pool (step_pool d.step))) [
    | inl y ↦
        let of : step_pool d.step ≡ Some pool = pool_is pool (step_pool d.step) y in
        let at = rw of at is.station in
        let low : at.0 < stations_of config pool = number_low config d older pool at.0 is of at.1 in
        rw (y, at.1) (omega arith)
    | inr y ↦ rw y (omega arith)
  ]
  taken_within (Units unit) is = elim (cases_Bool (is_of unit (step_unit d.step))) [
    | inl y ↦
        let left = (operation (unit_is unit (step_unit d.step) y) is).can.unit_left in
        rw y (omega (arith, left))
    | inr y ↦ rw y (omega arith)
  ]
  taken_within Buses is = elim (cases_Bool (is_some (step_dest d.step))) [
    | inl y ↦
        let left = (can_end_is config older d.at.finish d.at.end (result_end is y).0).bus_left in
        rw y (omega (arith, left))
    | inr y ↦ rw y (omega arith)
  ]
  taken_within Width is = omega (arith, (can_issue_is config older d.step d.at.issue is.issue.0).slot_left)

pub peak_within : PeakIsWithin
peak_within config [] part timed = omega arith
peak_within config (d ∷ older) part timed =
    let a : taken_by part older d ≤ count_of config part = taken_within config older d part timed.0 in
    let b : peak part older ≤ count_of config part = peak_within config older part timed.1 in
    omega arith

-- of cycles that a test counts there is one that passes
range_some : (p : ℕ → Bool) (n a : ℕ) → 0 < count_by p (range_with_len a n) → (t : ℕ) × (a ≤ t) × (t < a + n)
    × (p t ≡ true)
range_some p zero a l = let z : count_by p (range_with_len a 0) ≡ 0 = refl in absurd (omega arith)
range_some p (suc n) a l = elim (cases_Bool (p a)) [
  | inl e ↦ (a, omega arith, omega arith, e)
  | inr e ↦
      let f : count_by p (range_with_len a (suc n)) ≡ 0 + count_by p (range_with_len (a + 1) n) =
      rw (sum_by-cons, e) refl in
      let r = range_some p n (a + 1) (omega arith) in
      let low : a + 1 ≤ r.0 = r.1 in
      let high : r.0 < a + 1 + n = r.2 in
      (r.0, omega arith, omega arith, r.3)
]

some_that : (p : ℕ → Bool) (from to : ℕ) → 0 < cycles_that p from to → (t : ℕ) × (from ≤ t) × (t < to) × (p t ≡ true)
some_that p from to l =
    let r = range_some p (to - from) from l in
    let low : from ≤ r.0 = r.1 in
    let high : r.0 < from + (to - from) = r.2 in
    (r.0, low, omega arith, r.3)

-- no cycle has more of a part in use than the greatest number

in_use : (part : Part) (q : Done → Bool) (h : List Done)
    → ((d : Done) (older : List Done) → q d ≡ true → taken_by part older d ≡ count_by q older + 1)
    → count_by q h ≤ peak part h
in_use part q [] takes = omega arith
in_use part q (d ∷ h) takes = let k = in_use part q h takes in elim (cases_Bool (q d)) [
  | inl e ↦ rw (sum_by-cons, e) (omega (arith, takes d h e))
  | inr e ↦ rw (sum_by-cons, e) (omega arith)
]

-- in a cycle in which a step waits for a part as many are in use as the configuration has

module _ (config : Configuration) (older : List Done) (d : Done) where
  width_full : 0 < (waits_of config older d).width → config.width ≤ peak Width older
  width_full waits =
      let c = some_that (lacks_width config older) (max 1 (last_issue older)) d.at.issue waits in
      let t : ℕ = c.0 in
      let low : max 1 (last_issue older) ≤ c.0 = c.1 in
      let fails : not (can_issue_another config older c.0) ≡ true =
      (and_parts (are_branches_finished older c.0) (not (can_issue_another config older c.0)) c.3).1 in
      let order : nat_le (last_issue older) c.0 ≡ true = le-leb (last_issue older) c.0 (omega arith) in
      let none : nat_lt (count_by (λ x. x.at.issue == c.0) older) config.width ≡ false =
      last_fails _ _ order (not-true (can_issue_another config older c.0) fails) in
      let most = in_use Width (λ x. x.at.issue == c.0) older
      (λ x h e. rw (eqb-true x.at.issue c.0 e) refl) in
      let full : config.width ≤ count_by (λ x. x.at.issue == c.0) older =
      ltb-false (count_by (λ x. x.at.issue == c.0) older) config.width none in
      omega arith

  station_full : (pool : PoolId) → AreTimed config older → IsTimed config older d.step d.at
      → 0 < waits_for (Stations pool) d (waits_of config older d)
      → stations_of config pool ≤ peak (Stations pool) older
  station_full pool timed is waits = elim (cases_Bool (is_in pool (step_pool d.step))) [
    | inr f ↦ let z : 0 < 0 = rw f at waits in absurd (omega arith)
    | inl f ↦
        let w : 0 < (waits_of config older d).station = rw f at waits in
        let c = some_that (lacks_station config older) (max 1 (last_issue older)) d.at.issue w in
        let low : max 1 (last_issue older) ≤ c.0 = c.1 in
        let both = and_parts (are_branches_finished older c.0) (can_issue_another config older c.0) c.3 in
        let none : has_station config older (step_pool d.step) c.0 ≡ false =
        last_fails _ _ (and_from _ _ (and_from _ _ (lt-ltb 0 c.0 (omega arith)) both.1) both.0) (is.issue.1 c.0 c.2) in
        let full = ltb-false (count_by (is_held pool c.0) older) (stations_of config pool)
        (rw (pool_is pool (step_pool d.step) f) at none) in
        let most = stations_held config older pool c.0 timed (omega arith) in
        omega arith
  ]

  unit_full : (unit : UnitId) → IsTimed config older d.step d.at
      → 0 < waits_for (Units unit) d (waits_of config older d)
      → (option_of config unit).units ≤ peak (Units unit) older
  unit_full unit is waits = elim (cases_Bool (is_of unit (step_unit d.step))) [
    | inr f ↦ let z : 0 < 0 = rw f at waits in absurd (omega arith)
    | inl f ↦
        let w : 0 < (waits_of config older d).unit = rw f at waits in
        let c = some_that (lacks_unit older d) (d.at.issue + 1) d.at.start w in
        let low : d.at.issue + 1 ≤ c.0 = c.1 in
        let start = (operation (unit_is unit (step_unit d.step) f) is).start in
        let conflicts = and_parts (has_operands older d.step c.0 && nat_lt (cycle_of d.at.address) c.0)
        (are_conflicts_finished older d.step c.0) c.3 in
        let operands = and_parts (has_operands older d.step c.0) (nat_lt (cycle_of d.at.address) c.0) conflicts.0 in
        let none : has_unit config older unit c.0 ≡ false =
        last_fails _ _ (and_from _ _ (and_from _ _ (and_from _ _ (lt-ltb d.at.issue c.0 (omega arith)) operands.1)
        operands.0) conflicts.1) (start.1 c.0 c.2) in
        let full = ltb-false (count_by (λ x. is_of unit (step_unit x.step) && x.at.start == c.0) older)
        (option_of config unit).units none in
        let most = in_use (Units unit) (λ x. is_of unit (step_unit x.step) && x.at.start == c.0) older (λ x h e.
        let two = and_parts (is_of unit (step_unit x.step)) (x.at.start == c.0) e in
        rw (two.0, eqb-true x.at.start c.0 two.1) refl) in
        omega arith
  ]

  -- without a result nothing waits for a bus
  no_bus_wait : IsTimed config older d.step d.at → is_some (step_dest d.step) ≡ false → d.at.end ≤ d.at.finish
  no_bus_wait is none = elim (cases_unit d.step) [
    | inl e ↦ let at : IsAtOnce d.at = at_once e is in omega arith
    | inr u ↦ omega (
      arith,
      MatchBool-at_false (IsLeast (can_end config older d.at.finish) d.at.end) _ none (operation u.1 is).end,
    )
  ]

  bus_full : IsTimed config older d.step d.at → 0 < d.at.end - (d.at.finish + 1) → config.buses ≤ peak Buses older
  bus_full is waits = elim (cases_Bool (is_some (step_dest d.step))) [
    | inr y ↦ absurd (omega (arith, no_bus_wait is y))
    | inl y ↦
        let none : has_bus config older (d.at.finish + 1) ≡ false =
        last_fails _ _ (lt-ltb d.at.finish (d.at.finish + 1) (omega arith))
        ((result_end is y).1 (d.at.finish + 1) (omega arith)) in
        let full = ltb-false (count_by (λ x. is_some (step_dest x.step) && x.at.end == d.at.finish + 1) older)
        config.buses none in
        let most = in_use Buses (λ x. is_some (step_dest x.step) && x.at.end == d.at.finish + 1) older (λ x h e.
        let two = and_parts (is_some (step_dest x.step)) (x.at.end == d.at.finish + 1) e in
        rw (two.0, eqb-true x.at.end (d.at.finish + 1) two.1) refl) in
        omega arith
  ]

  step_full : (part : Part) → AreTimed config older
      → IsTimed config older d.step d.at → 0 < waits_for part d (waits_of config older d)
      → count_of config part ≤ peak part older
  step_full (Stations pool) timed is waits = station_full pool timed is waits
  step_full (Units unit) timed is waits = unit_full unit is waits
  step_full Buses timed is waits = bus_full is waits
  step_full Width timed is waits = width_full waits

all_in_use : (config : Configuration) (h : List Done) (part : Part) → AreTimed config h → 0 < stalls config part h
    → count_of config part ≤ peak part h
all_in_use config [] part timed l = absurd (omega arith)
all_in_use config (d ∷ older) part timed l = elim (cases_order 0 (stalls config part older)) [
  | inl e ↦ let k : count_of config part ≤ peak part older =
      step_full config older d part timed.1 timed.0 (omega arith) in omega arith
  | inr (inl m) ↦ let k : count_of config part ≤ peak part older = all_in_use config older part timed.1 m in omega arith
  | inr (inr m) ↦ absurd (omega arith)
]

pub stalled_full : StalledPartsAreFull
stalled_full config h part timed l =
    let a : peak part h ≤ count_of config part = peak_within config h part timed in
    let b : count_of config part ≤ peak part h = all_in_use config h part timed l in
    omega arith
