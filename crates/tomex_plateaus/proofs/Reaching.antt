-- A configuration with another number of a part in a plateau's interval lies on the plateau too.
use Rattle.std.proofs.Common.{◌≡◌, ◌∙◌, ◌⊎◌, ◌+◌, ◌<◌, ◌≤◌, ℕ, suc, arith, ap, sym, refl, subst, inl, inr}
use Rattle.std.proofs.Common.{List, [], ◌∷◌, Some, get_or, length, set, slice_get, true}
use Rattle.std.specs.Prelude.{nat_le}
use Rattle.std.specs.List.{list_all}
use Rattle.std.proofs.lemmas.Bool.{and_from, and_parts, cases_eq, le-leb, leb-true}
use Rattle.std.proofs.lemmas.List.{get_or-set_other, get_or-set_same}
use Rattle.tomex_rvdec.specs.Places.{place_of_pool, place_of_unit}
use Rattle.tomex_rvdec.specs.declared.pool.UnitId.{UnitId}
use Rattle.tomex_rvdec.specs.declared.pool.UnitId.TheVariants as units
use Rattle.tomex_rvdec.proofs.Places.{pool_low, unit_low}
use Rattle.tomex_rvexec.specs.declared.step.Step.{Step}
use Rattle.tomex_config.specs.Configuration.{Configuration, IsWithinLimits, is_between, most_units, option_of}
use Rattle.tomex_config.specs.Configuration.{plain_option}
use Rattle.tomex_config.specs.Cost.{all_units}
use Rattle.tomex_config.specs.Parts.{all_parts, count_of, most_of, with_count}
use Rattle.tomex_config.specs.declared.config.UnitOption.{UnitOption}
use Rattle.tomex_config.specs.declared.part.Part.{Part}
use Rattle.tomex_config.specs.declared.part.Part.TheVariants.{Stations, Units, Buses, Width}
use Rattle.tomex_config.proofs.Within.{count_within}
use Rattle.tomex_timing.specs.Search.{times_in, total_of}
use Rattle.tomex_timing.proofs.Limits.{between, buses_high, stations_high, units_high}
use Rattle.tomex_timing.proofs.Implied.{part_listed, unit_listed}
use Rattle.tomex_plateaus.specs.declared.plateau.Plateau.{Plateau}
use Rattle.tomex_plateaus.specs.Laws.{OtherNumberLiesOnToo}
use Rattle.tomex_plateaus.specs.Plateaus.{AreSameFrom, IsPlateauOf, counts_of, interval_at, is_within, latencies_of}
use Rattle.tomex_plateaus.specs.Plateaus.{lies_on, place_of_count}
use Rattle.tomex_timing.specs.Run.{total}
use Rattle.tomex_study.specs.Cycles.{totals_on}
use Rattle.tomex_study.specs.Program.{Workload, IsProgram}
use Rattle.tomex_plateaus.specs.Kept.{Kept}
use Rattle.tomex_plateaus.specs.Knowledge.{AreTotalsFrom, IsKnowledge}
use Rattle.std.proofs.lemmas.Bool.{cases_order}
use Rattle.std.proofs.lemmas.Option.{get_or_from_slice_get, slice_get_within}
use Rattle.tomex_plateaus.proofs.Implied.{all_from}
use Rattle.tomex_plateaus.proofs.Knowing.{listed, steps_of}
use Rattle.tomex_plateaus.proofs.Totals.{total_within}

-- the count of a part: the other number, or as it was

one_set : (xs : List ℕ) (a b n : ℕ) → a < length xs
    → ((b ≡ a) × (get_or (set xs a n) b 0 ≡ n)) ⊎ (get_or (set xs a n) b 0 ≡ get_or xs b 0)
one_set xs a b n low = elim (cases_eq b a) [
  | inl e ↦ inl (e, ap (λ (k : ℕ). get_or (set xs a n) k 0) e ∙ get_or-set_same xs a n 0 low)
  | inr apart ↦ inr (get_or-set_other xs a b n 0 apart)
]

one_option : (xs : List UnitOption) (a b : ℕ) (o : UnitOption) → a < length xs
    → ((b ≡ a) × (get_or (set xs a o) b plain_option ≡ o))
    ⊎ (get_or (set xs a o) b plain_option ≡ get_or xs b plain_option)
one_option xs a b o low = elim (cases_eq b a) [
  | inl e ↦
      inl (e, ap (λ (k : ℕ). get_or (set xs a o) k plain_option) e ∙ get_or-set_same xs a o plain_option low)
  | inr apart ↦ inr (get_or-set_other xs a b o plain_option apart)
]

abbrev IsOther : Configuration → Part → ℕ → Part → Type 0
IsOther c part n q =
    ((place_of_count q ≡ place_of_count part) × (count_of (with_count c part n) q ≡ n))
    ⊎ (count_of (with_count c part n) q ≡ count_of c q)

other_count : (c : Configuration) (part : Part) (n : ℕ) (q : Part) → IsWithinLimits c → IsOther c part n q
other_count c (Stations a) n (Stations b) good =
    let low = pool_low a in
    one_set c.stations (place_of_pool a) (place_of_pool b) n (omega (arith, good.pools))
other_count c (Units a) n (Units b) good =
    let low = unit_low a in
    elim (one_option c.units (place_of_unit a) (place_of_unit b)
    (record { units = n; latency = (option_of c a).latency; price = (option_of c a).price })
    (omega (arith, good.kinds))) [
      | inl two ↦ inl (ap (λ (k : ℕ). 6 + k) two.0, ap (λ (o : UnitOption). o.units) two.1)
      | inr same ↦ inr (ap (λ (o : UnitOption). o.units) same)
    ]
other_count c Buses n Buses good = inl (refl, refl)
other_count c Width n Width good = inl (refl, refl)
other_count c (Stations a) n (Units b) good = inr refl
other_count c (Stations a) n Buses good = inr refl
other_count c (Stations a) n Width good = inr refl
other_count c (Units a) n (Stations b) good = inr refl
other_count c (Units a) n Buses good = inr refl
other_count c (Units a) n Width good = inr refl
other_count c Buses n (Stations b) good = inr refl
other_count c Buses n (Units b) good = inr refl
other_count c Buses n Width good = inr refl
other_count c Width n (Stations b) good = inr refl
other_count c Width n (Units b) good = inr refl
other_count c Width n Buses good = inr refl

same_latency : (c : Configuration) (part : Part) (n : ℕ) (unit : UnitId) → IsWithinLimits c
    → (option_of (with_count c part n) unit).latency ≡ (option_of c unit).latency
same_latency c (Stations a) n unit good = refl
same_latency c Buses n unit good = refl
same_latency c Width n unit good = refl
same_latency c (Units a) n unit good =
    let low = unit_low a in
    elim (one_option c.units (place_of_unit a) (place_of_unit unit)
    (record { units = n; latency = (option_of c a).latency; price = (option_of c a).price })
    (omega (arith, good.kinds))) [
      | inl two ↦
          ap (λ (o : UnitOption). o.latency) two.1
          ∙ ap (λ (k : ℕ). (get_or c.units k plain_option).latency) (sym two.0)
      | inr same ↦ ap (λ (o : UnitOption). o.latency) same
    ]

pub lies_too : OtherNumberLiesOnToo
lies_too config p part n good on within =
    let other = with_count config part n in
    let parts = λ (q : Part). is_within (counts_of p q) (count_of config q) in
    let kinds = λ (unit : UnitId). is_within (latencies_of p unit) (option_of config unit).latency in
    let parts' = λ (q : Part). is_within (counts_of p q) (count_of other q) in
    let kinds' = λ (unit : UnitId). is_within (latencies_of p unit) (option_of other unit).latency in
    let two = and_parts (list_all parts all_parts) (list_all kinds all_units) on in
    and_from (list_all parts' all_parts) (list_all kinds' all_units)
    (all_from parts' all_parts (λ q. elim (other_count config part n q good) [
      | inl is ↦
          subst (λ (m : ℕ). is_within (counts_of p q) m ≡ true) (sym is.1)
          (subst (λ (k : ℕ). is_within (interval_at p k) n ≡ true) (sym is.0) within)
      | inr same ↦
          subst (λ (m : ℕ). is_within (counts_of p q) m ≡ true) (sym same) (part_listed parts q two.0)
    ]))
    (all_from kinds' all_units (λ unit.
    subst (λ (m : ℕ). is_within (latencies_of p unit) m ≡ true) (sym (same_latency config part n unit good))
    (unit_listed kinds unit two.1)))

-- a configuration has no more of a part than it can have
fewer_units : (config : Configuration) (unit : UnitId) → IsWithinLimits config
    → (option_of config unit).units ≤ most_units unit
fewer_units config units.Alu good = units_high config units.Alu good
fewer_units config units.Mul good = units_high config units.Mul good
fewer_units config units.Div good = units_high config units.Div good
fewer_units config units.Mem good = units_high config units.Mem good
fewer_units config units.Bru good = omega (arith, good.branch_unit)

at_most : (config : Configuration) (part : Part) → IsWithinLimits config → count_of config part ≤ most_of part
at_most config (Stations pool) good = stations_high config pool good
at_most config (Units unit) good = fewer_units config unit good
at_most config Buses good = buses_high config good
at_most config Width good = (between 1 4 config.width good.width).1

below_most : (config : Configuration) (part : Part) (n : ℕ) → IsWithinLimits config → 1 ≤ n
    → n < count_of config part → is_between 1 (most_of part) n ≡ true
below_most config part n good some low =
    let high = at_most config part good in
    and_from (nat_le 1 n) (nat_le n (most_of part)) (le-leb 1 n some)
    (le-leb n (most_of part) (omega (arith, low, high)))

-- so the run takes the same cycles down to the plateau's least
pub same_from : (steps : List Step) (config : Configuration) (p : Plateau) (part : Part) → IsWithinLimits config
    → IsPlateauOf steps p → lies_on config p ≡ true → AreSameFrom steps config part (counts_of p part).least
same_from steps config p part good is on n some from within =
    let parts = λ (q : Part). is_within (counts_of p q) (count_of config q) in
    let kinds = λ (unit : UnitId). is_within (latencies_of p unit) (option_of config unit).latency in
    let two = and_parts (list_all parts all_parts) (list_all kinds all_units) on in
    let own = and_parts (nat_le (counts_of p part).least (count_of config part))
    (nat_le (count_of config part) (counts_of p part).most) (part_listed parts part two.0) in
    let high : count_of config part ≤ (counts_of p part).most =
    leb-true (count_of config part) (counts_of p part).most own.1 in
    let in_it : is_within (counts_of p part) n ≡ true =
    and_from (nat_le (counts_of p part).least n) (nat_le n (counts_of p part).most)
    (le-leb (counts_of p part).least n from) (le-leb n (counts_of p part).most (omega arith)) in
    let other = count_within config part n good (below_most config part n good some within) in
    is (with_count config part n) other (lies_too config p part n good on in_it) ∙ sym (is config good on)

-- nothing is said of fewer
pub same_own : (steps : List Step) (config : Configuration) (part : Part)
    → AreSameFrom steps config part (count_of config part)
same_own steps config part n some from within = absurd (omega arith)

-- the same for all programs

-- with each of these numbers the programs before a place take the same cycles
abbrev pub AreTotalsBefore : List Workload → Configuration → Part → (low place : ℕ) → Type 0
AreTotalsBefore programs config part low place = (n : ℕ) → 1 ≤ n → low ≤ n → n < count_of config part
    → (k : ℕ) (p : Workload) → k < place → slice_get programs k ≡ Some p
    → total (with_count config part n) p.image ≡ total config p.image

pub none_before : (programs : List Workload) (config : Configuration) (part : Part)
    → AreTotalsBefore programs config part 0 0
none_before programs config part n some from within k p low at = absurd (omega arith)

pub one_before : (programs : List Workload) (lists : List Kept) (config : Configuration) (part : Part)
    (low reach new place : ℕ) (l : Kept) → low ≤ new → reach ≤ new → IsKnowledge programs lists
    → slice_get lists place ≡ Some l
    → AreSameFrom l.steps config part reach → AreTotalsBefore programs config part low place
    → AreTotalsBefore programs config part new (place + 1)
one_before programs lists config part low reach new place l up high is here same before n some from within k p k_low
    at =
    elim (cases_order k place) [
      | inl e ↦
          let it : slice_get programs place ≡ Some p = subst (λ i. slice_get programs i ≡ Some p) e at in
          let steps : l.steps ≡ steps_of p = listed programs lists place p l is.steps it here in
          let good : IsProgram p = subst IsProgram (get_or_from_slice_get programs place p p it)
          (is.ends place p (slice_get_within programs place p it)) in
          total_within p (with_count config part n) good
          ∙ subst (λ (xs : List Step).
          total_of (times_in (with_count config part n) xs) ≡ total_of (times_in config xs))
          steps (same n some (omega arith) within)
          ∙ sym (total_within p config good)
      | inr (inl less) ↦ before n some (omega arith) within k p less at
      | inr (inr greater) ↦ absurd (omega arith)
    ]

all_equal : (programs : List Workload) (a b : Configuration)
    → ((k : ℕ) (p : Workload) → slice_get programs k ≡ Some p → total a p.image ≡ total b p.image)
    → totals_on programs a ≡ totals_on programs b
unfolding totals_on
all_equal [] a b each = refl
all_equal (p ∷ ps) a b each =
    rw (each 0 p refl, all_equal ps a b (λ k q at. each (suc k) q at)) refl

pub all_before : (programs : List Workload) (config : Configuration) (part : Part) (low place : ℕ)
    → length programs ≤ place → AreTotalsBefore programs config part low place
    → AreTotalsFrom programs config part low
all_before programs config part low place past before n some from within =
    all_equal programs (with_count config part n) config (λ k p at.
    let l = slice_get_within programs k p at in
    before n some from within k p (omega arith) at)
