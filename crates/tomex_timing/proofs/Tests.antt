-- A step passes a test of the recurrence in a cycle exactly if what the test says holds.
use Rattle.std.proofs.Common.{ℕ, ◌+◌, ◌-◌, ◌<◌, ◌≡◌, ◌⊎◌, Bool, true, false, IsTrue, refl, inl, inr, List, [], ◌∷◌}
use Rattle.std.proofs.Common.{Option, Some, None, nat_lt, nat_le, not, ◌||◌, IfSome, count_by, is_some}
use Rattle.std.specs.List.{list_all, AllByRecursion}
use Rattle.std.proofs.lemmas.Bool.{and_from, and_parts, cases_Bool, le-leb, leb-true, lt-ltb, ltb-true, or_left}
use Rattle.std.proofs.lemmas.Bool.{or_right}
use Rattle.std.proofs.lemmas.List.Elements.{All-from_recursion, recursion_from_All}
use Rattle.tomex_rvdec.specs.declared.pool.PoolId.{PoolId}
use Rattle.tomex_rvdec.specs.declared.pool.UnitId.{UnitId}
use Rattle.tomex_rvexec.specs.Steps.{step_pool, step_unit, j_of, k_of, is_branch}
use Rattle.tomex_rvexec.specs.declared.step.Step.{Step}
use Rattle.tomex_config.specs.Configuration.{Configuration, option_of, stations_of}
use Rattle.tomex_timing.specs.declared.times.Done.{Done}
use Rattle.tomex_timing.specs.declared.times.Times.{Times}
use Rattle.tomex_timing.specs.History.{cycle_of, source_end, last_issue, last_address}
use Rattle.tomex_timing.specs.Recurrence.{EndsAfter, IsLeast, IsTimed, are_branches_finished, are_conflicts_finished}
use Rattle.tomex_timing.specs.Recurrence.{can_address, can_end, can_issue, can_issue_another, can_start, conflicts}
use Rattle.tomex_timing.specs.Recurrence.{has_bus, has_operands, has_unit}
use Rattle.tomex_timing.specs.Station.{has_station, is_held}
use Rattle.tomex_timing.specs.Tests.{CanAddress, CanEnd, CanIssue, CanStart}

finished_each : (p : Done → Bool) (t : ℕ) (older : List Done)
    → list_all (λ d. not (p d) || nat_lt d.at.finish t) older ≡ true
    → AllByRecursion (λ d. IsTrue (p d) → d.at.finish < t) older
finished_each p t [] h = tt
finished_each p t (d ∷ older) h =
    let two = and_parts (not (p d) || nat_lt d.at.finish t) _ h in
    (λ is. ltb-true d.at.finish t (rw is at two.0), finished_each p t older two.1)

finished_from : (p : Done → Bool) (t : ℕ) (older : List Done)
    → AllByRecursion (λ d. IsTrue (p d) → d.at.finish < t) older
    → list_all (λ d. not (p d) || nat_lt d.at.finish t) older ≡ true
finished_from p t [] h = refl
finished_from p t (d ∷ older) h = and_from _ _ (elim (cases_Bool (p d)) [
  | inl e ↦ or_right _ (nat_lt d.at.finish t) (lt-ltb d.at.finish t (h.0 e))
  | inr e ↦ or_left _ (nat_lt d.at.finish t) (rw e refl)
]) (finished_from p t older h.1)

station_is_left : (config : Configuration) (older : List Done) (x : Option PoolId) (t : ℕ)
    → has_station config older x t ≡ true → IfSome x (λ pool. count_by (is_held pool t) older < stations_of config pool)
station_is_left config older None t h = tt
station_is_left config older (Some pool) t h = ltb-true _ _ h

has_station_from : (config : Configuration) (older : List Done) (x : Option PoolId) (t : ℕ)
    → IfSome x (λ pool. count_by (is_held pool t) older < stations_of config pool) → has_station config older x t ≡ true
has_station_from config older None t h = refl
has_station_from config older (Some pool) t h = lt-ltb _ _ h

pub can_issue_is : (config : Configuration) (older : List Done) (s : Step) (t : ℕ) → can_issue config older s t ≡ true
    → CanIssue config older s t
can_issue_is config older s t h =
    let station = and_parts _ (has_station config older (step_pool s) t) h in
    let branches = and_parts _ (are_branches_finished older t) station.0 in
    let first = and_parts (nat_lt 0 t) (can_issue_another config older t) branches.0 in
    let slot = and_parts (nat_le (last_issue older) t) _ first.1 in
    record {
      first = ltb-true 0 t first.0;
      in_order = leb-true (last_issue older) t slot.0;
      slot_left = ltb-true _ _ slot.1;
      branches_finished = All-from_recursion (λ d. IsTrue (is_branch d.step) → d.at.finish < t) older
          (finished_each (λ d. is_branch d.step) t older branches.1);
      station_left = station_is_left config older (step_pool s) t station.1;
    }

pub can_issue_from : (config : Configuration) (older : List Done) (s : Step) (t : ℕ) → CanIssue config older s t
    → can_issue config older s t ≡ true
can_issue_from config older s t can =
    and_from _ _ (and_from _ _ (and_from _ _ (lt-ltb 0 t can.first)
    (and_from _ _ (le-leb (last_issue older) t can.in_order) (lt-ltb _ _ can.slot_left)))
    (finished_from (λ d. is_branch d.step) t older
    (recursion_from_All (λ d. IsTrue (is_branch d.step) → d.at.finish < t) older can.branches_finished)))
    (has_station_from config older (step_pool s) t can.station_left)

pub can_address_is : (older : List Done) (s : Step) (issue t : ℕ) → can_address older s issue t ≡ true
    → CanAddress older s issue t
can_address_is older s issue t h =
    let order = and_parts _ (nat_lt (last_address older) t) h in
    let base = and_parts (nat_lt issue t) (nat_lt (source_end older (j_of s)) t) order.0 in
    record {
      after_issue = ltb-true issue t base.0;
      after_base = ltb-true _ _ base.1;
      in_order = ltb-true _ _ order.1;
    }

pub can_address_from : (older : List Done) (s : Step) (issue t : ℕ) → CanAddress older s issue t
    → can_address older s issue t ≡ true
can_address_from older s issue t can =
    and_from _ _ (and_from _ _ (lt-ltb issue t can.after_issue) (lt-ltb _ _ can.after_base)) (lt-ltb _ _ can.in_order)

pub can_start_is : (config : Configuration) (older : List Done) (s : Step) (unit : UnitId) (issue address t : ℕ)
    → can_start config older s unit issue address t ≡ true → CanStart config older s unit issue address t
can_start_is config older s unit issue address t h =
    let left = and_parts _ (has_unit config older unit t) h in
    let finished = and_parts _ (are_conflicts_finished older s t) left.0 in
    let operands = and_parts _ (has_operands older s t) finished.0 in
    let after = and_parts (nat_lt issue t) (nat_lt address t) operands.0 in
    let both = and_parts (nat_lt (source_end older (j_of s)) t) (nat_lt (source_end older (k_of s)) t) operands.1 in
    record {
      after_issue = ltb-true issue t after.0;
      after_address = ltb-true address t after.1;
      after_j = ltb-true _ _ both.0;
      after_k = ltb-true _ _ both.1;
      conflicts_finished = All-from_recursion (λ d. IsTrue (conflicts d.step s) → d.at.finish < t) older
          (finished_each (λ d. conflicts d.step s) t older finished.1);
      unit_left = ltb-true _ _ left.1;
    }

pub can_start_from : (config : Configuration) (older : List Done) (s : Step) (unit : UnitId) (issue address t : ℕ)
    → CanStart config older s unit issue address t → can_start config older s unit issue address t ≡ true
can_start_from config older s unit issue address t can =
    and_from _ _ (and_from _ _ (and_from _ _
    (and_from _ _ (lt-ltb issue t can.after_issue) (lt-ltb address t can.after_address))
    (and_from _ _ (lt-ltb _ _ can.after_j) (lt-ltb _ _ can.after_k))) (finished_from (λ d. conflicts d.step s) t older
    (recursion_from_All (λ d. IsTrue (conflicts d.step s) → d.at.finish < t) older can.conflicts_finished)))
    (lt-ltb _ _ can.unit_left)

pub can_end_is : (config : Configuration) (older : List Done) (finish t : ℕ) → can_end config older finish t ≡ true
    → CanEnd config older finish t
can_end_is config older finish t h =
    let two = and_parts (nat_lt finish t) (has_bus config older t) h in
    record { after_finish = ltb-true finish t two.0; bus_left = ltb-true _ _ two.1 }

pub can_end_from : (config : Configuration) (older : List Done) (finish t : ℕ) → CanEnd config older finish t
    → can_end config older finish t ≡ true
can_end_from config older finish t can = and_from _ _ (lt-ltb finish t can.after_finish) (lt-ltb _ _ can.bus_left)

-- the times of a step that uses a unit
pub record IsOperation (config : Configuration) (older : List Done) (s : Step) (unit : UnitId) (at : Times) : Type 0
  where
    pub start : IsLeast (can_start config older s unit at.issue (cycle_of at.address)) at.start
    pub can : CanStart config older s unit at.issue (cycle_of at.address) at.start
    pub finish : at.finish ≡ at.start + (option_of config unit).latency - 1
    pub end : EndsAfter config older s at.finish at.end

pub operation : {config : Configuration} {older : List Done} {s : Step} {unit : UnitId} {at : Times}
    → step_unit s ≡ Some unit → IsTimed config older s at → IsOperation config older s unit at
operation {config} {older} {s} {unit} {at} e is =
    let start : IsLeast (can_start config older s unit at.issue (cycle_of at.address)) at.start = rw e at is.start in
    record {
      start = start;
      can = can_start_is config older s unit at.issue (cycle_of at.address) at.start start.0;
      finish = rw e at is.finish;
      end = rw e at is.end;
    }

-- and of one that uses none
pub record IsAtOnce (at : Times) : Type 0 where
  pub start : at.start ≡ at.issue
  pub finish : at.finish ≡ at.issue
  pub end : at.end ≡ at.issue

pub at_once : {config : Configuration} {older : List Done} {s : Step} {at : Times} → step_unit s ≡ None
    → IsTimed config older s at → IsAtOnce at
at_once e is = record { start = rw e at is.start; finish = rw e at is.finish; end = rw e at is.end }

pub cases_unit : (s : Step) → (step_unit s ≡ None) ⊎ ((unit : UnitId) × (step_unit s ≡ Some unit))
cases_unit s = cases (step_unit s)
  where
    cases : (x : Option UnitId) → (x ≡ None) ⊎ ((unit : UnitId) × (x ≡ Some unit))
    cases None = inl refl
    cases (Some unit) = inr (unit, refl)

pub unit_of : (s : Step) → is_some (step_unit s) ≡ true → (unit : UnitId) × (step_unit s ≡ Some unit)
unit_of s some = elim (cases_unit s) [
  | inl none ↦ let f : false ≡ true = rw none at some in absurd (cc)
  | inr unit ↦ unit
]
