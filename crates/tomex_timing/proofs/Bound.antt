-- A step's times are at most 67 past the greatest end before it, so n steps take at most 67 * n cycles.
use Rattle.std.proofs.Common.{ℕ, ◌+◌, ◌*◌, ◌<◌, ◌≤◌, ◌≡◌, true, false, arith, refl, List, [], ◌∷◌, Option, Some, None}
use Rattle.std.proofs.Common.{inl, inr, length, ◌||◌, is_some}
use Rattle.std.specs.Bool.{MatchBool}
use Rattle.std.proofs.lemmas.Bool.{cases_Bool, MatchBool-at_true, MatchBool-at_false}
use Rattle.std.proofs.lemmas.List.Elements.{All-from_recursion, All-weaker, recursion_from_All}
use Rattle.tomex_rvdec.specs.Operands.{unit_at}
use Rattle.tomex_rvdec.specs.declared.pool.PoolId.{PoolId}
use Rattle.tomex_rvdec.specs.declared.pool.PoolId.TheVariants.{Load, Store}
use Rattle.tomex_rvdec.specs.declared.pool.UnitId.{UnitId}
use Rattle.tomex_rvexec.specs.Steps.{step_pool, step_unit, step_dest, is_in}
use Rattle.tomex_rvexec.specs.declared.step.Step.{Step}
use Rattle.tomex_config.specs.Configuration.{Configuration, IsWithinLimits, option_of}
use Rattle.tomex_timing.specs.declared.times.Done.{Done}
use Rattle.tomex_timing.specs.declared.times.Times.{Times}
use Rattle.tomex_timing.specs.History.{is_memory, cycle_of, greatest_end}
pub use Rattle.tomex_timing.specs.Laws.{InReach}
use Rattle.tomex_timing.specs.Recurrence.{IsLeast, IsTimed, AreTimed, can_issue, can_address, can_start, can_end}
use Rattle.tomex_timing.proofs.Least.{least_le}
use Rattle.tomex_timing.proofs.Limits.{latency_low, latency_high}
use Rattle.tomex_timing.proofs.Tests.{IsAtOnce, IsOperation, at_once, can_end_is, can_issue_is, can_start_is}
use Rattle.tomex_timing.proofs.Tests.{cases_unit, operation}
use Rattle.tomex_timing.proofs.AfterEnd.{AllBy, IsDoneBy, can_issue_after, can_address_after, can_start_after}
use Rattle.tomex_timing.proofs.AfterEnd.{can_end_after}

pub issue_low : (config : Configuration) (older : List Done) (s : Step) (t : ℕ) → can_issue config older s t ≡ true
    → 0 < t
issue_low config older s t h = (can_issue_is config older s t h).first

pub start_low : (config : Configuration) (older : List Done) (s : Step) (unit : UnitId) (issue address t : ℕ)
    → can_start config older s unit issue address t ≡ true → (issue < t) × (address < t)
start_low config older s unit issue address t h =
    let can = can_start_is config older s unit issue address t h in
    (can.after_issue, can.after_address)

pub end_low : (config : Configuration) (older : List Done) (finish t : ℕ) → can_end config older finish t ≡ true
    → finish < t
end_low config older finish t h = (can_end_is config older finish t h).after_finish

-- a load or store uses a unit
pub memory_unit : (pool : Option PoolId) → (is_in Load pool || is_in Store pool) ≡ true → is_some (unit_at pool) ≡ true
memory_unit None h = h
memory_unit (Some pool) h = refl

address_reach : (config : Configuration) (older : List Done) (s : Step) (at : Times) (g : ℕ) → AllBy g older
    → IsTimed config older s at → at.issue ≤ g + 1 → cycle_of at.address ≤ g + 2
address_reach config older s at g h timed i = elim (cases_Bool (is_memory s)) [
  | inl e ↦ least_le (can_address older s at.issue) (cycle_of at.address) (g + 2)
      (MatchBool-at_true _ _ e timed.address) (can_address_after older s at.issue g h i)
  | inr e ↦ let z : at.address ≡ None =
      MatchBool-at_false (IsLeast (can_address older s at.issue) (cycle_of at.address)) _ e timed.address in
      rw z (omega arith)
]

end_reach : (config : Configuration) (older : List Done) (s : Step) (finish end g : ℕ) → IsWithinLimits config
    → AllBy g older → finish ≤ g + 66 → MatchBool (is_some (step_dest s)) (IsLeast (can_end config older finish) end)
    (end ≡ finish) → (finish ≤ end) × (end ≤ g + 67)
end_reach config older s finish end g good h f is = elim (cases_Bool (is_some (step_dest s))) [
  | inl e ↦
      let at_end : IsLeast (can_end config older finish) end = MatchBool-at_true _ _ e is in
      let low : finish < end = end_low config older finish end at_end.0 in (
        omega arith,
        least_le (can_end config older finish) end (g + 67) at_end
            (can_end_after config older finish g (g + 67) good h (omega arith) (omega arith)),
      )
  | inr e ↦ let z : end ≡ finish = MatchBool-at_false (IsLeast (can_end config older finish) end) _ e is in
      (omega arith, omega arith)
]

reach_made : (g : ℕ) (at : Times) → 0 < at.issue → at.issue ≤ g + 1 → cycle_of at.address ≤ at.start
    → at.issue ≤ at.start → at.start ≤ at.finish → at.finish ≤ at.end → at.end ≤ g + 67 → InReach g at
reach_made g at low reach address start order finish end = record {
  issue_low = low;
  issue = omega arith;
  issue_reach = reach;
  address = omega arith;
  start = omega arith;
  finish = finish;
  end = end;
  order = order;
}

-- without a unit there is no address cycle
no_address : (config : Configuration) (older : List Done) (s : Step) (at : Times) → step_unit s ≡ None
    → IsTimed config older s at → cycle_of at.address ≡ 0
no_address config older s at none timed = elim (cases_Bool (is_memory s)) [
  | inl e ↦ let f : false ≡ true = rw none at (memory_unit (step_pool s) e) in absurd (cc)
  | inr e ↦
      rw (MatchBool-at_false (IsLeast (can_address older s at.issue) (cycle_of at.address)) _ e timed.address) refl
]

pub in_reach : (config : Configuration) (older : List Done) (s : Step) (at : Times) (g : ℕ) → IsWithinLimits config
    → AllBy g older → IsTimed config older s at → InReach g at
in_reach config older s at g good h timed =
    let low : 0 < at.issue = issue_low config older s at.issue timed.issue.0 in
    let i : at.issue ≤ g + 1 = least_le (can_issue config older s) at.issue (g + 1) timed.issue
    (can_issue_after config older s g good h) in
    let a : cycle_of at.address ≤ g + 2 = address_reach config older s at g h timed i in
    elim (cases_unit s) [
      | inl none ↦
          let is : IsAtOnce at = at_once none timed in
          let no : cycle_of at.address ≡ 0 = no_address config older s at none timed in
          reach_made g at low i (omega arith) (omega arith) (omega arith) (omega arith) (omega arith)
      | inr u ↦
          let is : IsOperation config older s u.0 at = operation u.1 timed in
          let by : at.start ≤ g + 3 = least_le (can_start config older s u.0 at.issue (cycle_of at.address)) at.start
          (g + 3) is.start (can_start_after config older s u.0 at.issue (cycle_of at.address) g good h i a) in
          let long : 0 < (option_of config u.0).latency = latency_low config u.0 good in
          let short : (option_of config u.0).latency ≤ 64 = latency_high config u.0 good in
          let ends = end_reach config older s at.finish at.end g good h (omega arith) is.end in
          reach_made g at low i (omega arith) (omega arith) (omega arith) (omega arith) (omega arith)
    ]

-- a time within a bound is within a larger one
AllBy-more : (a b : ℕ) (older : List Done) → a ≤ b → AllBy a older → AllBy b older
AllBy-more a b older l h =
    recursion_from_All (IsDoneBy b) older (All-weaker (IsDoneBy a) (IsDoneBy b) (λ d by. record {
      issue = omega (arith, by.issue);
      address = omega (arith, by.address);
      start = omega (arith, by.start);
      finish = omega (arith, by.finish);
      end = omega (arith, by.end);
    }) older (All-from_recursion (IsDoneBy a) older h))

-- nothing of a history lies past its greatest end
pub timed_by : (config : Configuration) (h : List Done) → IsWithinLimits config → AreTimed config h
    → AllBy (greatest_end h) h
timed_by config [] good timed = tt
timed_by config (d ∷ older) good timed =
    let earlier : AllBy (greatest_end older) older = timed_by config older good timed.1 in
    let r : InReach (greatest_end older) d.at =
    in_reach config older d.step d.at (greatest_end older) good earlier timed.0 in (
      record {
        issue = omega arith;
        address = omega arith;
        start = omega arith;
        finish = omega arith;
        end = omega arith;
      },
      AllBy-more (greatest_end older) (greatest_end (d ∷ older)) older (omega arith) earlier,
    )

-- n steps take at most 67 * n cycles
pub total_bound : (config : Configuration) (h : List Done) → IsWithinLimits config → AreTimed config h
    → greatest_end h ≤ 67 * length h
total_bound config [] good timed = omega arith
total_bound config (d ∷ older) good timed =
    let r : InReach (greatest_end older) d.at =
    in_reach config older d.step d.at (greatest_end older) good (timed_by config older good timed.1) timed.0 in
    let earlier : greatest_end older ≤ 67 * length older = total_bound config older good timed.1 in
    omega arith
