-- The cycles of a run are its waits and its issues; the cycles of its stations are its waits and its operations.
use Rattle.std.proofs.Common.{ℕ, ◌+◌, ◌-◌, ◌<◌, ◌≤◌, ◌≡◌, Bool, true, false, cond, arith, refl, inl, inr}
use Rattle.std.proofs.Common.{List, [], ◌∷◌, Option, Some, None, max, nat_lt, not, ◌&&◌, is_some}
use Rattle.std.specs.Bool.{MatchBool}
use Rattle.std.proofs.lemmas.Bool.{cases_Bool, lt-ltb, MatchBool-at_true, MatchBool-at_false}
use Rattle.std.proofs.lemmas.Bool.Decides.{nat_tests}
use Rattle.tomex_rvdec.specs.declared.pool.PoolId.{PoolId}
use Rattle.tomex_rvdec.specs.declared.pool.PoolId.TheVariants as pools
use Rattle.tomex_rvdec.specs.declared.pool.UnitId.{UnitId}
use Rattle.tomex_rvdec.specs.declared.pool.UnitId.TheVariants as units
use Rattle.tomex_rvexec.specs.Steps.{step_pool, step_unit, step_dest, is_in}
use Rattle.tomex_config.specs.Configuration.{Configuration, IsWithinLimits, option_of}
use Rattle.tomex_config.specs.declared.part.Part.TheVariants.{Width}
use Rattle.tomex_timing.specs.declared.times.Done.{Done}
use Rattle.tomex_timing.specs.Ahead.{one}
use Rattle.tomex_timing.specs.History.{is_of, cycle_of, last_issue, greatest_end}
use Rattle.tomex_timing.specs.Laws.{IssueCyclesAddUp, StationCyclesAddUp, StationWaitsAreStalls, UnitWaitsAreStalls}
use Rattle.tomex_timing.specs.Laws.{work_by}
use Rattle.tomex_timing.specs.Needs.{cycles_that, lacks_branch, lacks_width, lacks_station, lacks_operand}
use Rattle.tomex_timing.specs.Needs.{lacks_address}
use Rattle.tomex_timing.specs.Needs.{lacks_memory, lacks_unit, waits_of, pool_stalls, stalls, stalls_by}
use Rattle.tomex_timing.specs.Recurrence.{IsLeast, IsTimed, AreTimed, can_end, can_issue_another}
use Rattle.tomex_timing.specs.Recurrence.{are_branches_finished, has_operands, are_conflicts_finished}
use Rattle.tomex_timing.proofs.Bands.{four_ways, none_of, none_pass}
use Rattle.tomex_timing.proofs.Bound.{end_low, issue_low, timed_by}
use Rattle.tomex_timing.proofs.Limits.{latency_low}
use Rattle.tomex_timing.proofs.AfterEnd.{last_issue_by}
use Rattle.tomex_timing.proofs.Width.{issue_from}
use Rattle.tomex_timing.proofs.Tests.{IsAtOnce, IsOperation, at_once, operation}

three_ways : (p q r : ℕ → Bool) (from to : ℕ) → ((t : ℕ) → one (p t) + one (q t) + one (r t) ≡ 1)
    → cycles_that p from to + cycles_that q from to + cycles_that r from to ≡ to - from
three_ways p q r from to each =
    let k = four_ways p q r (λ t. false) from to (λ t l m. omega (arith, each t)) in
    let z = none_pass (λ t. false) from to (λ t l m. refl) in
    omega arith

issue_ways : (b w : Bool) → one (not b) + one (b && not w) + one (b && w) ≡ 1
issue_ways b w = grind (arith, nat_tests)

-- the waits of one issue
pub issue_account : (config : Configuration) (older : List Done) (d : Done) → (waits_of config older d).branch
    + (waits_of config older d).width + (waits_of config older d).station ≡ d.at.issue - max 1 (last_issue older)
issue_account config older d = three_ways (lacks_branch older) (lacks_width config older) (lacks_station config older)
    (max 1 (last_issue older)) d.at.issue
    (λ t. issue_ways (are_branches_finished older t) (can_issue_another config older t))

-- what needs no station waits for none
no_station_wait : (config : Configuration) (older : List Done) (d : Done) → step_pool d.step ≡ None
    → IsTimed config older d.step d.at → (waits_of config older d).station ≡ 0
no_station_wait config older d none is =
    none_pass (lacks_station config older) (max 1 (last_issue older)) d.at.issue (λ t l m.
    last_alone (are_branches_finished older t) (can_issue_another config older t)
    (rw (none, lt-ltb 0 t (omega arith)) at (is.issue.1 t m)))
  where
    last_alone : (b w : Bool) → (((true && w) && b) && true) ≡ false → (b && w) ≡ false
    last_alone b w h = grind (arith, nat_tests)

abbrev in_pools : Option PoolId → ℕ → ℕ
in_pools x n = cond (is_in pools.Alu x) n 0 + cond (is_in pools.Mul x) n 0 + cond (is_in pools.Div x) n 0
    + cond (is_in pools.Load x) n 0 + cond (is_in pools.Store x) n 0 + cond (is_in pools.Bru x) n 0

in_one_pool : (p : PoolId) (n : ℕ) → in_pools (Some p) n ≡ n
in_one_pool pools.Alu n = omega arith
in_one_pool pools.Mul n = omega arith
in_one_pool pools.Div n = omega arith
in_one_pool pools.Load n = omega arith
in_one_pool pools.Store n = omega arith
in_one_pool pools.Bru n = omega arith

pool_account : (x : Option PoolId) (n : ℕ) → (x ≡ None → n ≡ 0) → in_pools x n ≡ n
pool_account None n none = let z : n ≡ 0 = none refl in rw z refl
pool_account (Some p) n none = in_one_pool p n

abbrev issue_stalls : Configuration → List Done → ℕ
issue_stalls config h =
    stalls_by (λ w. w.branch) config h + stalls config Width h + pool_stalls config h

issues_add_up : (config : Configuration) (h : List Done) → AreTimed config h → issue_stalls config h
    + 1 ≡ max 1 (last_issue h)
issues_add_up config [] timed = refl
issues_add_up config (d ∷ older) timed =
    let k : issue_stalls config older + 1 ≡ max 1 (last_issue older) = issues_add_up config older timed.1 in
    let a = issue_account config older d in
    let p : in_pools (step_pool d.step) (waits_of config older d).station ≡ (waits_of config older d).station =
    pool_account (step_pool d.step) (waits_of config older d).station
    (λ none. no_station_wait config older d none timed.0) in
    let l : last_issue older ≤ d.at.issue = issue_from config older d.step d.at.issue timed.0.issue.0 in
    let pos : 0 < d.at.issue = issue_low config older d.step d.at.issue timed.0.issue.0 in
    omega arith

pub issue_cycles : IssueCyclesAddUp
issue_cycles config d older good timed =
    let k : issue_stalls config (d ∷ older) + 1 ≡ max 1 d.at.issue = issues_add_up config (d ∷ older) timed in
    let pos : 0 < d.at.issue = issue_low config older d.step d.at.issue timed.0.issue.0 in
    let l : d.at.issue ≤ greatest_end (d ∷ older) =
    last_issue_by (greatest_end (d ∷ older)) (d ∷ older) (timed_by config (d ∷ older) good timed) in
    omega arith

-- one operation

start_ways : (o a m : Bool) → one (not o) + one (o && not a) + one ((o && a) && not m) + one ((o && a) && m) ≡ 1
start_ways o a m = grind (arith, nat_tests)

pub start_account : (config : Configuration) (older : List Done) (d : Done) → (waits_of config older d).operand
    + (waits_of config older d).address + (waits_of config older d).memory
    + (waits_of config older d).unit ≡ d.at.start - (d.at.issue + 1)
start_account config older d =
    four_ways (lacks_operand older d) (lacks_address older d) (lacks_memory older d) (lacks_unit older d)
    (d.at.issue + 1) d.at.start
    (λ t l m. start_ways (has_operands older d.step t) (nat_lt (cycle_of d.at.address) t)
    (are_conflicts_finished older d.step t))

abbrev in_units : Option UnitId → ℕ → ℕ
in_units x n = cond (is_of units.Alu x) n 0 + cond (is_of units.Mul x) n 0 + cond (is_of units.Div x) n 0
    + cond (is_of units.Mem x) n 0 + cond (is_of units.Bru x) n 0

in_one_unit : (u : UnitId) (n : ℕ) → in_units (Some u) n ≡ n
in_one_unit units.Alu n = omega arith
in_one_unit units.Mul n = omega arith
in_one_unit units.Div n = omega arith
in_one_unit units.Mem n = omega arith
in_one_unit units.Bru n = omega arith

end_account : (config : Configuration) (older : List Done) (d : Done)
    → MatchBool (is_some (step_dest d.step)) (IsLeast (can_end config older d.at.finish) d.at.end)
    (d.at.end ≡ d.at.finish)
    → d.at.end ≡ d.at.finish + (d.at.end - (d.at.finish + 1)) + one (is_some (step_dest d.step))
end_account config older d is = elim (cases_Bool (is_some (step_dest d.step))) [
  | inl e ↦
      let least : IsLeast (can_end config older d.at.finish) d.at.end = MatchBool-at_true _ _ e is in
      rw e (omega (arith, end_low config older d.at.finish d.at.end least.0))
  | inr e ↦ let same : d.at.end ≡ d.at.finish =
      MatchBool-at_false (IsLeast (can_end config older d.at.finish) d.at.end) _ e is in rw e (omega arith)
]

operation_account : (config : Configuration) (older : List Done) (d : Done) (unit : Option UnitId)
    → IsWithinLimits config → step_unit d.step ≡ unit → IsTimed config older d.step d.at
    → cond (is_some unit) (d.at.end - d.at.issue) 0
    ≡ (waits_of config older d).operand + (waits_of config older d).address + (waits_of config older d).memory
    + in_units unit (waits_of config older d).unit + (waits_of config older d).bus
    + work_by config unit (is_some (step_dest d.step))
operation_account config older d None good e is =
    let at : IsAtOnce d.at = at_once e is in
    let a = start_account config older d in
    omega arith
operation_account config older d (Some u) good e is =
    let at : IsOperation config older d.step u d.at = operation e is in
    let pos : 0 < (option_of config u).latency = latency_low config u good in
    let a = start_account config older d in
    let b = end_account config older d at.end in
    let k = in_one_unit u (waits_of config older d).unit in
    omega arith

pub station_cycles : StationCyclesAddUp
station_cycles config [] good timed = refl
station_cycles config (d ∷ older) good timed =
    let k = station_cycles config older good timed.1 in
    let a = operation_account config older d (step_unit d.step) good refl timed.0 in
    omega arith

-- the waits for stations are those of all pools
pub station_stalls : StationWaitsAreStalls
station_stalls config [] timed = refl
station_stalls config (d ∷ older) timed =
    let k = station_stalls config older timed.1 in
    let p : in_pools (step_pool d.step) (waits_of config older d).station ≡ (waits_of config older d).station =
    pool_account (step_pool d.step) (waits_of config older d).station
    (λ none. no_station_wait config older d none timed.0) in
    omega arith

unit_account : (config : Configuration) (older : List Done) (d : Done) (unit : Option UnitId) → step_unit d.step ≡ unit
    → IsTimed config older d.step d.at → in_units unit (waits_of config older d).unit ≡ (waits_of config older d).unit
unit_account config older d None e is =
    let at : IsAtOnce d.at = at_once e is in
    let n = none_of (lacks_unit older d) (d.at.issue + 1) d.at.start (omega arith) in
    omega arith
unit_account config older d (Some u) e is = in_one_unit u (waits_of config older d).unit

-- and those for units of all kinds
pub kind_stalls : UnitWaitsAreStalls
kind_stalls config [] timed = refl
kind_stalls config (d ∷ older) timed =
    let k = kind_stalls config older timed.1 in
    let p : in_units (step_unit d.step) (waits_of config older d).unit ≡ (waits_of config older d).unit =
    unit_account config older d (step_unit d.step) refl timed.0 in
    omega arith
