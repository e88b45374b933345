-- A configuration that serves a history as another does gives it the same times.
use Rattle.std.proofs.Common.{ℕ, zero, suc, ◌+◌, ◌-◌, ◌<◌, ◌≤◌, ◌≡◌, ◌∙◌, ◌⊎◌, Bool, true, false, arith, refl, ap, sym}
use Rattle.std.proofs.Common.{inl, inr, List, [], ◌∷◌, Option, Some, None, max, map, reverse}
use Rattle.std.specs.Prelude.{nat_lt, ◌==◌, ◌&&◌, count_by, is_some, MatchOption}
use Rattle.std.specs.Bool.{MatchBool}
use Rattle.std.specs.List.{range_with_len}
use Rattle.std.proofs.lemmas.Bool.{cases_Bool, cases_order, and_parts, and_from, and_left, both_ways, eq-eqb, le-ltb}
use Rattle.std.proofs.lemmas.Bool.{false_from_ne_true, ltb-true, lt-ltb, not-false}
use Rattle.std.proofs.lemmas.List.Sums.{sum_by-cons}
use Rattle.tomex_rvdec.specs.declared.pool.PoolId.{PoolId}
use Rattle.tomex_rvdec.specs.declared.pool.UnitId.{UnitId}
use Rattle.tomex_rvexec.specs.Steps.{step_pool, step_unit, step_dest, is_in}
use Rattle.tomex_rvexec.specs.declared.step.Step.{Step}
use Rattle.tomex_config.specs.Configuration.{Configuration, IsWithinLimits, stations_of, option_of}
use Rattle.tomex_config.specs.declared.part.Part.{Part}
use Rattle.tomex_config.specs.declared.part.Part.TheVariants.{Stations, Units, Buses, Width}
use Rattle.tomex_timing.specs.declared.times.Done.{Done}
use Rattle.tomex_timing.specs.History.{is_of, cycle_of, last_issue}
use Rattle.tomex_timing.specs.Needs.{cycles_that, lacks_width, lacks_station, lacks_unit, waits_of, stalls}
use Rattle.tomex_config.specs.Parts.{count_of}
use Rattle.tomex_timing.specs.Needs.{peak, Serves}
use Rattle.tomex_timing.specs.Recurrence.{IsLeast, IsTimed, AreTimed, can_issue_another, are_branches_finished}
use Rattle.tomex_timing.specs.Recurrence.{can_issue, has_operands, are_conflicts_finished, has_unit, can_start, has_bus}
use Rattle.tomex_timing.specs.Recurrence.{can_end}
use Rattle.tomex_timing.specs.Search.{history, timed_of, times_in, total_of}
use Rattle.tomex_timing.specs.Station.{has_station, is_held, is_free}
use Rattle.tomex_timing.proofs.Histories.{are_timed}
use Rattle.tomex_timing.proofs.Holders.{stations_fit}
use Rattle.tomex_timing.proofs.Bound.{end_low}
use Rattle.tomex_timing.proofs.Least.{least_agree}
use Rattle.tomex_timing.proofs.Search.{timed_of-same}
use Rattle.tomex_timing.proofs.Tests.{can_end_from, can_issue_is}
use Rattle.tomex_timing.proofs.Width.{issue_from}

-- of no cycles that pass none passes
range_none : (p : ℕ → Bool) (n a t : ℕ) → count_by p (range_with_len a n) ≡ 0 → a ≤ t → t < a + n → p t ≡ false
range_none p zero a t e l m = absurd (omega arith)
range_none p (suc n) a t e l m = elim (cases_Bool (p a)) [
  | inl y ↦ let f : 1 + count_by p (range_with_len (a + 1) n) ≡ 0 = rw (sum_by-cons, y) at e in absurd (omega arith)
  | inr y ↦ elim (cases_order a t) [
    | inl s ↦ rw (← s) y
    | inr (inl k) ↦ let g : 0 + count_by p (range_with_len (a + 1) n) ≡ 0 = rw (sum_by-cons, y) at e in
        let f : count_by p (range_with_len (a + 1) n) ≡ 0 = omega arith in
        range_none p n (a + 1) t f (omega arith) (omega arith)
    | inr (inr k) ↦ absurd (omega arith)
  ]
]

pub none_that : (p : ℕ → Bool) (from to t : ℕ) → cycles_that p from to ≡ 0 → from ≤ t → t < to → p t ≡ false
none_that p from to t e l m = range_none p (to - from) from t e l (omega arith)

-- a part of the second configuration beside the first configuration's, at one step: as many, or no stalls and
-- enough
abbrev Stands : Configuration → Configuration → Part → List Done → Done → Type 0
Stands config other part older d = (count_of other part ≡ count_of config part)
    ⊎ ((stalls config part (d ∷ older) ≡ 0) × (peak part (d ∷ older) ≤ count_of other part))

own_pool : (p : PoolId) → is_in p (Some p) ≡ true
own_pool p = eq-eqb _ _ refl

own_unit : (u : UnitId) → is_of u (Some u) ≡ true
own_unit u = eq-eqb _ _ refl

-- the parts of the test for issue
issue_parts : (config : Configuration) (older : List Done) (s : Step) (t : ℕ) → can_issue config older s t ≡ true
    → (nat_lt 0 t ≡ true) × (can_issue_another config older t ≡ true) × (are_branches_finished older t ≡ true)
    × (has_station config older (step_pool s) t ≡ true)
issue_parts config older s t can =
    let three = and_parts _ (has_station config older (step_pool s) t) can in
    let two = and_parts _ (are_branches_finished older t) three.0 in
    let one = and_parts (nat_lt 0 t) (can_issue_another config older t) two.0 in
    (one.0, one.1, two.1, three.1)

by_unit : (x : Option UnitId) (A : Type 0) (P Q : UnitId → Type 0) → ((u : UnitId) → x ≡ Some u → P u → Q u)
    → MatchOption x A P → MatchOption x A Q
by_unit None A P Q f h = h
by_unit (Some u) A P Q f h = f u refl h

by_dest : (b : Bool) (P Q R : Type 0) → (b ≡ true → P → Q) → MatchBool b P R → MatchBool b Q R
by_dest true P Q R f h = f refl h
by_dest false P Q R f h = h

-- A step that has the first configuration's times has the second one's: each earlier cycle that the second's tests let
-- through the first's let through too.
module _ (config other : Configuration) (older : List Done) (d : Done)
    (stands : (part : Part) → Stands config other part older d) where
  slot_back : (t : ℕ) → max 1 (last_issue older) ≤ t → t < d.at.issue → are_branches_finished older t ≡ true
      → can_issue_another other older t ≡ true → can_issue_another config older t ≡ true
  slot_back t low high branches there = elim (stands Width) [
    | inl same ↦ rw same at there
    | inr none ↦
        let no : (waits_of config older d).width ≡ 0 = let z = none.0 in omega arith in
        let f : lacks_width config older t ≡ false =
        none_that (lacks_width config older) (max 1 (last_issue older)) d.at.issue t no low high in
        not-false (can_issue_another config older t) (rw branches at f)
  ]

  slot_there : can_issue_another config older d.at.issue ≡ true → can_issue_another other older d.at.issue ≡ true
  slot_there there = elim (stands Width) [
    | inl same ↦ rw same there
    | inr none ↦
        let taken : count_by (λ x. x.at.issue == d.at.issue) older + 1 ≤ other.width = let m = none.1 in omega arith in
        and_from _ _ (and_parts _ _ there).0
        (lt-ltb (count_by (λ x. x.at.issue == d.at.issue) older) other.width (omega arith))
  ]

  station_back : (x : Option PoolId) (t : ℕ) → step_pool d.step ≡ x → max 1 (last_issue older) ≤ t → t < d.at.issue
      → are_branches_finished older t ≡ true → can_issue_another config older t ≡ true
      → has_station other older x t ≡ true → has_station config older x t ≡ true
  station_back None t e low high branches slot there = refl
  station_back (Some p) t e low high branches slot there = elim (stands (Stations p)) [
    | inl same ↦ rw same at there
    | inr none ↦
        let z = rw (e, own_pool p) at none.0 in
        let no : (waits_of config older d).station ≡ 0 = omega arith in
        let f : lacks_station config older t ≡ false =
        none_that (lacks_station config older) (max 1 (last_issue older)) d.at.issue t no low high in
        let g : true ≡ false = rw (branches, slot) at f in absurd (cc)
  ]

  station_there : (x : Option PoolId) → step_pool d.step ≡ x → AreTimed config older → last_issue older ≤ d.at.issue
      → MatchOption x (d.at.station ≡ None) (λ p. (n : ℕ) × (d.at.station ≡ Some n)
      × IsLeast (is_free p older d.at.issue) n)
      → has_station config older x d.at.issue ≡ true → has_station other older x d.at.issue ≡ true
  station_there None e timed l is there = refl
  station_there (Some p) e timed l is there = elim (stands (Stations p)) [
    | inl same ↦ rw same there
    | inr none ↦
        let m = rw (e, own_pool p, is.1) at none.1 in
        lt-ltb (count_by (is_held p d.at.issue) older) (stations_of other p)
        (stations_fit config older p d.at.issue is.0 (stations_of other p) timed l is.2.0 (omega arith) (omega arith))
  ]

  issues : AreTimed config older → IsTimed config older d.step d.at → IsLeast (can_issue other older d.step) d.at.issue
  issues timed is =
      let p = issue_parts config older d.step d.at.issue is.issue.0 in
      let l : last_issue older ≤ d.at.issue = issue_from config older d.step d.at.issue is.issue.0 in (
        and_from _ _ (and_from _ _ (and_from _ _ p.0 (slot_there p.1)) p.2)
            (station_there (step_pool d.step) refl timed l is.station p.3),
        λ t high. false_from_ne_true (can_issue other older d.step t) (λ can.
            let q = issue_parts other older d.step t can in
            let says = can_issue_is other older d.step t can in
            let pos : 0 < t = says.first in
            let order : last_issue older ≤ t = says.in_order in
            let low : max 1 (last_issue older) ≤ t = omega arith in
            let slot = slot_back t low high q.2 q.1 in
            both_ways _ (is.issue.1 t high) (and_from _ _ (and_from _ _ (and_from _ _ q.0 slot) q.2)
            (station_back (step_pool d.step) t refl low high q.2 slot q.3))),
      )

  starts_with : (u : UnitId) → step_unit d.step ≡ Some u
      → IsLeast (can_start config older d.step u d.at.issue (cycle_of d.at.address)) d.at.start
      → IsLeast (can_start other older d.step u d.at.issue (cycle_of d.at.address)) d.at.start
  starts_with u e is = elim (stands (Units u)) [
    | inl same ↦ least_agree (can_start config older d.step u d.at.issue (cycle_of d.at.address))
        (can_start other older d.step u d.at.issue (cycle_of d.at.address)) d.at.start (λ t. rw same refl) is
    | inr none ↦
        let z = rw (e, own_unit u) at none.0 in
        let m = rw (e, own_unit u) at none.1 in
        let no : (waits_of config older d).unit ≡ 0 = omega arith in (
          and_from _ _ (and_parts _ _ is.0).0
              (lt-ltb (count_by (λ x. is_of u (step_unit x.step) && x.at.start == d.at.start) older)
              (option_of other u).units (omega arith)),
          λ t high. false_from_ne_true (can_start other older d.step u d.at.issue (cycle_of d.at.address) t) (λ can.
              let left = and_parts _ (has_unit other older u t) can in
              let finished = and_parts _ (are_conflicts_finished older d.step t) left.0 in
              let operands = and_parts _ (has_operands older d.step t) finished.0 in
              let after = and_parts (nat_lt d.at.issue t) (nat_lt (cycle_of d.at.address) t) operands.0 in
              let f : lacks_unit older d t ≡ false =
              none_that (lacks_unit older d) (d.at.issue + 1) d.at.start t no
              (omega (arith, ltb-true d.at.issue t after.0)) high in
              let g : true ≡ false = rw (operands.1, after.1, finished.1) at f in absurd (cc)),
        )
  ]

  ends_with : is_some (step_dest d.step) ≡ true → IsLeast (can_end config older d.at.finish) d.at.end
      → IsLeast (can_end other older d.at.finish) d.at.end
  ends_with dest is = elim (stands Buses) [
    | inl same ↦ least_agree (can_end config older d.at.finish) (can_end other older d.at.finish) d.at.end
        (λ t. rw same refl) is
    | inr none ↦
        let after : d.at.finish < d.at.end = end_low config older d.at.finish d.at.end is.0 in
        let no : d.at.end - (d.at.finish + 1) ≡ 0 = let z = none.0 in omega arith in
        let m = rw dest at none.1 in (
          can_end_from other older d.at.finish d.at.end (record { after_finish = after; bus_left = omega arith }),
          λ t high. and_left (nat_lt d.at.finish t) (has_bus other older t) (le-ltb d.at.finish t (omega arith)),
        )
  ]

latency_same : (config other : Configuration) (older : List Done) (d : Done) (u : UnitId) → step_unit d.step ≡ Some u
    → ((option_of other u).latency ≡ (option_of config u).latency) ⊎ (peak (Units u) (d ∷ older) ≡ 0)
    → (option_of other u).latency ≡ (option_of config u).latency
latency_same config other older d u e (inl same) = same
latency_same config other older d u e (inr none) = let n = rw (e, own_unit u) at none in absurd (omega arith)

timed_still : (config other : Configuration) (older : List Done) (d : Done) → AreTimed config older
    → IsTimed config older d.step d.at → Serves config other (d ∷ older) → IsTimed other older d.step d.at
timed_still config other older d timed is serves = record {
  issue = issues config other older d serves.parts timed is;
  address = is.address;
  start = by_unit (step_unit d.step) _ _ _ (λ u e x. starts_with config other older d serves.parts u e x) is.start;
  finish = by_unit (step_unit d.step) _ _ _ (λ u e x. rw (latency_same config other older d u e (serves.latencies u)) x)
      is.finish;
  end = by_unit (step_unit d.step) _ _ _ (λ u e x. by_dest (is_some (step_dest d.step)) _ _ _
      (λ dest least. ends_with config other older d serves.parts dest least) x) is.end;
  station = is.station;
}

-- a history's beginning has no more stalls, and takes no more
serves_before : (config other : Configuration) (older : List Done) (d : Done) → Serves config other (d ∷ older)
    → Serves config other older
serves_before config other older d serves = record {
  parts = λ part. elim (serves.parts part) [
    | inl same ↦ inl same
    | inr none ↦ inr (let z = none.0 in omega arith, let m = none.1 in omega arith)
  ];
  latencies = λ unit. elim (serves.latencies unit) [
    | inl same ↦ inl same
    | inr none ↦ inr (omega arith)
  ];
}

pub serves_timed : (config other : Configuration) (h : List Done) → AreTimed config h → Serves config other h
    → AreTimed other h
serves_timed config other [] timed serves = tt
serves_timed config other (d ∷ older) timed serves = (
  timed_still config other older d timed.1 timed.0 serves,
  serves_timed config other older timed.1 (serves_before config other older d serves),
)

steps_of-timed : (config : Configuration) (ys : List Step) → map (λ d. d.step) (timed_of config ys) ≡ ys
steps_of-timed config [] = refl
steps_of-timed config (y ∷ ys) = ap (λ zs. y ∷ zs) (steps_of-timed config ys)

pub serves_history : (config other : Configuration) (steps : List Step) → IsWithinLimits config → IsWithinLimits other
    → Serves config other (history config steps) → history other steps ≡ history config steps
serves_history config other steps good good' serves =
    let timed : AreTimed other (history config steps) =
    serves_timed config other (history config steps) (are_timed config steps good) serves in
    let e : history config steps ≡ timed_of other (map (λ d. d.step) (history config steps)) =
    timed_of-same other (history config steps) good' timed in
    sym (e ∙ ap (timed_of other) (steps_of-timed config (reverse steps)))

pub serves_runs : (config other : Configuration) (steps : List Step) → IsWithinLimits config → IsWithinLimits other
    → Serves config other (history config steps) → (history other steps ≡ history config steps)
    × (total_of (times_in other steps) ≡ total_of (times_in config steps))
serves_runs config other steps good good' serves =
    let e = serves_history config other steps good good' serves in
    (e, ap (λ h. total_of (map (λ d. d.at) (reverse h))) e)
