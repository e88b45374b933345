-- The demands of a run give a plateau: a configuration that lies on it gives the run the same cycles as its own.
use Rattle.std.proofs.Common.{ℕ, ◌≤◌, ◌≡◌, ◌∙◌, ◌⊎◌, Bool, true, false, ap, arith, refl, subst, sym, inl}
use Rattle.std.proofs.Common.{inr, List, [], ◌∷◌}
use Rattle.std.specs.Prelude.{min, nat_le, ◌==◌, not}
use Rattle.std.specs.List.{list_all}
use Rattle.std.proofs.lemmas.Bool.{and_from, and_parts, cases_Bool, eqb-true, leb-true, le-leb}
use Rattle.tomex_rvdec.specs.declared.pool.PoolId.TheVariants as pools
use Rattle.tomex_rvdec.specs.declared.pool.UnitId.{UnitId}
use Rattle.tomex_rvdec.specs.declared.pool.UnitId.TheVariants as units
use Rattle.tomex_config.specs.Configuration.{Configuration, IsWithinLimits, option_of}
use Rattle.tomex_timing.specs.declared.demands.Demand.{Demand}
use Rattle.tomex_timing.specs.declared.demands.Demands.{Demands}
use Rattle.tomex_config.specs.declared.part.Part.{Part}
use Rattle.tomex_config.specs.declared.part.Part.TheVariants.{Stations, Units, Buses, Width}
use Rattle.tomex_timing.specs.declared.times.Done.{Done}
use Rattle.tomex_timing.specs.Demands.{AreDemands, demand_of}
use Rattle.tomex_timing.specs.Needs.{Serves, peak, stalls}
use Rattle.tomex_config.specs.Parts.{all_parts, count_of}
use Rattle.tomex_config.specs.Cost.{all_units}
use Rattle.tomex_timing.specs.Search.{history, times_in, total_of}
use Rattle.tomex_rvexec.specs.declared.step.Step.{Step}
use Rattle.tomex_timing.proofs.Demanded.{demand_is, demands_total}
use Rattle.tomex_timing.proofs.Histories.{are_timed, total_of-history}
use Rattle.tomex_timing.proofs.Implied.{part_listed, unit_listed}
use Rattle.tomex_timing.proofs.Limits.{between, buses_high, latency_high, stations_high, units_high}
use Rattle.tomex_timing.proofs.SameTimes.{serves_runs}
use Rattle.tomex_timing.proofs.Taken.{peak_within}
use Rattle.tomex_plateaus.specs.declared.interval.Interval.{Interval}
use Rattle.tomex_plateaus.specs.Laws.{OwnConfigurationLiesOn, TotalIsThatOfThePlateau}
use Rattle.tomex_plateaus.specs.Plateaus.{counts_for, counts_of, is_within, latencies_for, latencies_of, latency_for}
use Rattle.tomex_plateaus.specs.Plateaus.{lies_on, plateau_of}

-- a configuration's counts are small

count_high : (config : Configuration) (part : Part) → IsWithinLimits config → count_of config part ≤ 16
count_high config (Stations pool) good = stations_high config pool good
count_high config (Units unit) good = omega (arith, units_high config unit good)
count_high config Buses good = omega (arith, buses_high config good)
count_high config Width good = omega (arith, (between 1 4 config.width good.width).1)

-- consequences for a count and a latency in an interval; a configuration's own is in it

count_in : (demand : Demand) (count n : ℕ) → n ≤ 16 → is_within (counts_for demand count) n ≡ true → (n ≡ count)
    ⊎ ((demand.waits ≡ false) × (demand.peak ≤ n))
count_in demand count n few within = elim (cases_Bool demand.waits) [
  | inl waits ↦
      let two = and_parts (nat_le count n) (nat_le n count) (rw waits at within) in
      let low : count ≤ n = leb-true count n two.0 in
      let high : n ≤ count = leb-true n count two.1 in
      inl (omega arith)
  | inr none ↦
      let two = and_parts (nat_le (min demand.peak 255) n) (nat_le n 255) (rw none at within) in
      let low : min demand.peak 255 ≤ n = leb-true (min demand.peak 255) n two.0 in
      inr (none, omega arith)
]

own_count : (demand : Demand) (count : ℕ) → count ≤ 16 → demand.peak ≤ count
    → is_within (counts_for demand count) count ≡ true
own_count demand count few enough = elim (cases_Bool demand.waits) [
  | inl waits ↦ rw waits (and_from (nat_le count count) (nat_le count count) (le-leb count count (omega arith))
      (le-leb count count (omega arith)))
  | inr none ↦ rw none (and_from (nat_le (min demand.peak 255) count) (nat_le count 255)
      (le-leb (min demand.peak 255) count (omega arith)) (le-leb count 255 (omega arith)))
]

latency_in : (demand : Demand) (latency n : ℕ) → is_within (latencies_for demand latency) n ≡ true → (n ≡ latency)
    ⊎ (demand.peak ≡ 0)
latency_in demand latency n within = elim (cases_Bool (demand.peak == 0)) [
  | inl holds ↦ inr (eqb-true demand.peak 0 holds)
  | inr fails ↦
      let two = and_parts (nat_le latency n) (nat_le n latency) (rw fails at within) in
      let low : latency ≤ n = leb-true latency n two.0 in
      let high : n ≤ latency = leb-true n latency two.1 in
      inl (omega arith)
]

own_latency : (demand : Demand) (latency : ℕ) → latency ≤ 64 → is_within (latencies_for demand latency) latency ≡ true
own_latency demand latency few = elim (cases_Bool (demand.peak == 0)) [
  | inl holds ↦ rw holds (and_from (nat_le 0 latency) (nat_le latency 255) (le-leb 0 latency (omega arith))
      (le-leb latency 255 (omega arith)))
  | inr fails ↦ rw fails (and_from (nat_le latency latency) (nat_le latency latency)
      (le-leb latency latency (omega arith)) (le-leb latency latency (omega arith)))
]

-- the intervals of the plateau, part by part

counts_are : (demands : Demands) (own : Configuration) (part : Part)
    → counts_of (plateau_of demands own) part ≡ counts_for (demand_of demands part) (count_of own part)
counts_are demands own (Stations pools.Alu) = refl
counts_are demands own (Stations pools.Mul) = refl
counts_are demands own (Stations pools.Div) = refl
counts_are demands own (Stations pools.Load) = refl
counts_are demands own (Stations pools.Store) = refl
counts_are demands own (Stations pools.Bru) = refl
counts_are demands own (Units units.Alu) = refl
counts_are demands own (Units units.Mul) = refl
counts_are demands own (Units units.Div) = refl
counts_are demands own (Units units.Mem) = refl
counts_are demands own (Units units.Bru) = refl
counts_are demands own Buses = refl
counts_are demands own Width = refl

latencies_are : (demands : Demands) (own : Configuration) (unit : UnitId) → latencies_of (plateau_of demands own) unit
    ≡ latency_for demands own unit
latencies_are demands own units.Alu = refl
latencies_are demands own units.Mul = refl
latencies_are demands own units.Div = refl
latencies_are demands own units.Mem = refl
latencies_are demands own units.Bru = refl

pub all_from : {X : Type 0} (p : X → Bool) (xs : List X) → ((x : X) → p x ≡ true) → list_all p xs ≡ true
all_from p [] each = refl
all_from p (x ∷ xs) each = and_from (p x) (list_all p xs) (each x) (all_from p xs each)

-- a configuration on the plateau gives the run the same cycles

-- a part has no stalls if no step waits for it
no_stalls : (n : ℕ) → not (n == 0) ≡ false → n ≡ 0
no_stalls n none = elim (cases_Bool (n == 0)) [
  | inl holds ↦ eqb-true n 0 holds
  | inr fails ↦ let e : true ≡ false = rw fails at none in absurd (cc)
]

peak_is : (config : Configuration) (h : List Done) (demands : Demands) (part : Part) → AreDemands config h demands
    → (demand_of demands part).peak ≡ peak part h
peak_is config h demands part are = ap (λ (d : Demand). d.peak) (demand_is part are)

part_serves : (own other : Configuration) (h : List Done) (demands : Demands) (part : Part) → IsWithinLimits other
    → AreDemands own h demands → is_within (counts_of (plateau_of demands own) part) (count_of other part) ≡ true
    → (count_of other part ≡ count_of own part) ⊎ ((stalls own part h ≡ 0) × (peak part h ≤ count_of other part))
part_serves own other h demands part good are within =
    elim (count_in (demand_of demands part) (count_of own part) (count_of other part) (count_high other part good)
    (subst (λ (i : Interval). is_within i (count_of other part) ≡ true) (counts_are demands own part) within)) [
      | inl same ↦ inl same
      | inr two ↦ inr (
        no_stalls (stalls own part h) (sym (ap (λ (d : Demand). d.waits) (demand_is part are)) ∙ two.0),
        rw (peak_is own h demands part are) at two.1,
      )
    ]

latency_serves : (own other : Configuration) (h : List Done) (demands : Demands) (unit : UnitId)
    → AreDemands own h demands
    → is_within (latencies_of (plateau_of demands own) unit) (option_of other unit).latency ≡ true
    → ((option_of other unit).latency ≡ (option_of own unit).latency) ⊎ (peak (Units unit) h ≡ 0)
latency_serves own other h demands unit are within =
    elim (latency_in (demand_of demands (Units unit)) (option_of own unit).latency (option_of other unit).latency
    (subst (λ (i : Interval). is_within i (option_of other unit).latency ≡ true) (latencies_are demands own unit)
    within)) [
      | inl same ↦ inl same
      | inr none ↦ inr (sym (peak_is own h demands (Units unit) are) ∙ none)
    ]

config_serves : (own other : Configuration) (h : List Done) (demands : Demands) → IsWithinLimits other
    → AreDemands own h demands → lies_on other (plateau_of demands own) ≡ true → Serves own other h
config_serves own other h demands good are on =
    let p = plateau_of demands own in
    let parts = λ (part : Part). is_within (counts_of p part) (count_of other part) in
    let kinds = λ (unit : UnitId). is_within (latencies_of p unit) (option_of other unit).latency in
    let two = and_parts (list_all parts all_parts) (list_all kinds all_units) on in
    record {
      parts = λ part. part_serves own other h demands part good are (part_listed parts part two.0);
      latencies = λ unit. latency_serves own other h demands unit are (unit_listed kinds unit two.1);
    }

pub total_of_run : (own : Configuration) (steps : List Step) (demands : Demands)
    → AreDemands own (history own steps) demands → total_of (times_in own steps) ≡ demands.total
total_of_run own steps demands are = total_of-history (history own steps) ∙ sym (demands_total are)

pub total_of_plateau : TotalIsThatOfThePlateau
total_of_plateau own steps demands good are other good' on =
    let serves = config_serves own other (history own steps) demands good' are on in
    (serves_runs own other steps good good' serves).1 ∙ total_of_run own steps demands are

pub own_lies_on : OwnConfigurationLiesOn
own_lies_on own steps demands good are =
    let p = plateau_of demands own in
    let h = history own steps in
    let parts = λ (part : Part). is_within (counts_of p part) (count_of own part) in
    let kinds = λ (unit : UnitId). is_within (latencies_of p unit) (option_of own unit).latency in
    and_from (list_all parts all_parts) (list_all kinds all_units)
    (all_from parts all_parts (λ part.
    let most : peak part h ≤ count_of own part = peak_within own h part (are_timed own steps good) in
    subst (λ (i : Interval). is_within i (count_of own part) ≡ true) (sym (counts_are demands own part))
    (own_count (demand_of demands part) (count_of own part) (count_high own part good)
    (rw (peak_is own h demands part are) most))))
    (all_from kinds all_units
    (λ unit. subst (λ (i : Interval). is_within i (option_of own unit).latency ≡ true)
    (sym (latencies_are demands own unit))
    (own_latency (demand_of demands (Units unit)) (option_of own unit).latency (latency_high own unit good))))
