-- The waits of a run's steps, in program order, grow by one step at a time, and add up to its stalls. No step waits
-- longer than until its end, so the stalls of a run are no more than its steps times its cycles.
use Rattle.std.proofs.Common.{ℕ, ◌+◌, ◌-◌, ◌*◌, ◌^◌, ◌<◌, ◌≤◌, ◌≡◌, Bool, arith, inl, inr, List, [], ◌∷◌, max, suc, ◌∙◌}
use Rattle.std.proofs.Common.{refl, ◌++◌, ap, length, reverse, count_by, All, sum_by}
use Rattle.std.specs.List.{range_with_len}
use Rattle.std.proofs.lemmas.Bool.{cases_Bool}
use Rattle.std.proofs.lemmas.List.FromFn.{length-range_with_len}
use Rattle.std.proofs.lemmas.List.Sums.{count_by-le-length, sum_by_push}
use Rattle.tomex_rvexec.specs.Steps.{step_pool, step_unit, is_in}
use Rattle.tomex_config.specs.Configuration.{Configuration, IsWithinLimits}
use Rattle.tomex_timing.specs.declared.needs.Needs.{Needs}
use Rattle.tomex_config.specs.declared.part.Part.{Part}
use Rattle.tomex_config.specs.declared.part.Part.TheVariants.{Stations, Units, Buses, Width}
use Rattle.tomex_timing.specs.declared.need.Waits.{Waits}
use Rattle.tomex_timing.specs.declared.times.Done.{Done}
use Rattle.tomex_timing.specs.History.{is_of, greatest_end, last_issue}
use Rattle.tomex_timing.specs.Laws.{InReach, WaitsAddUp, BusWaitsAreStalls, WidthWaitsAreStalls}
use Rattle.tomex_timing.specs.Needs.{AreNeeds, cycles_that, lacks_branch, lacks_width, lacks_station, lacks_operand}
use Rattle.tomex_timing.specs.Needs.{lacks_address, lacks_memory, lacks_unit, waits_of, waits_for, sum_over, stalls_by}
use Rattle.tomex_timing.specs.Needs.{waits_in, waits_over}
use Rattle.tomex_timing.specs.Recurrence.{AreTimed}
use Rattle.tomex_timing.specs.Waiting.{AreWithin, IsWithin}
use Rattle.tomex_timing.proofs.Bound.{total_bound}
use Rattle.tomex_timing.proofs.Orders.{reach}
use Rattle.std.proofs.lemmas.List.{reverse-append, length-reverse}
use Rattle.std.proofs.lemmas.List.Elements.{All-nil, All-push}
use Rattle.tomex_rvexec.specs.declared.step.Step.{Step}
use Rattle.tomex_timing.specs.Search.{times_of, history}
use Rattle.tomex_timing.proofs.Histories.{are_timed, history_more, length-history}

cycles_few : (p : ℕ → Bool) (from to : ℕ) → cycles_that p from to ≤ to
cycles_few p from to =
    let a : count_by p (range_with_len from (to - from)) ≤ length (range_with_len from (to - from)) =
    count_by-le-length p (range_with_len from (to - from)) in
    let b : length (range_with_len from (to - from)) ≡ to - from = length-range_with_len from (to - from) in
    omega arith

pub waits_within : (config : Configuration) (h : List Done) (d : Done) (n : ℕ) → InReach (greatest_end h) d.at
    → d.at.end ≤ n → AreWithin n (waits_of config h d)
waits_within config h d n r l =
    let low = max 1 (last_issue h) in
    record {
      branch = omega (arith, cycles_few (lacks_branch h) low d.at.issue, r.issue);
      width = omega (arith, cycles_few (lacks_width config h) low d.at.issue, r.issue);
      station = omega (arith, cycles_few (lacks_station config h) low d.at.issue, r.issue);
      operand = omega (arith, cycles_few (lacks_operand h d) (d.at.issue + 1) d.at.start, r.start);
      address = omega (arith, cycles_few (lacks_address h d) (d.at.issue + 1) d.at.start, r.start);
      memory = omega (arith, cycles_few (lacks_memory h d) (d.at.issue + 1) d.at.start, r.start);
      unit = omega (arith, cycles_few (lacks_unit h d) (d.at.issue + 1) d.at.start, r.start);
      bus = omega arith;
    }

part_within : (part : Part) (d : Done) (waits : Waits) (n : ℕ) → AreWithin n waits → waits_for part d waits ≤ n
part_within (Stations pool) d waits n w =
    elim (cases_Bool (is_in pool (step_pool d.step))) [ inl e ↦ rw e w.station | inr e ↦ rw e (omega arith) ]
part_within (Units unit) d waits n w =
    elim (cases_Bool (is_of unit (step_unit d.step))) [ inl e ↦ rw e w.unit | inr e ↦ rw e (omega arith) ]
part_within Buses d waits n w = w.bus
part_within Width d waits n w = w.width

-- numbers of waits that are no longer than them
sum_within : (config : Configuration) (f : Done → Waits → ℕ) (h : List Done)
    → ((d : Done) (waits : Waits) (n : ℕ) → AreWithin n waits → f d waits ≤ n) → IsWithinLimits config
    → AreTimed config h → greatest_end h ≤ 2 ^ 35 → sum_over (λ older d. f d (waits_of config older d)) h ≤ 2 ^ 35
    * length h
sum_within config f [] small good timed l = omega arith
sum_within config f (d ∷ h) small good timed l =
    let r : InReach (greatest_end h) d.at = reach config d h good timed in
    let a : f d (waits_of config h d) ≤ 2 ^ 35 =
    small d (waits_of config h d) (2 ^ 35) (waits_within config h d (2 ^ 35) r (omega arith)) in
    let b : sum_over (λ older d. f d (waits_of config older d)) h ≤ 2 ^ 35 * length h =
    sum_within config f h small good timed.1 (omega arith) in
    omega arith

pub needs_within : (config : Configuration) (h : List Done) (needs : Needs) → IsWithinLimits config → AreTimed config h
    → length h < 2 ^ 28 → AreNeeds config h needs → IsWithin (2 ^ 63) needs
needs_within config h needs good timed few are =
    let by : greatest_end h ≤ 2 ^ 35 = omega (arith, total_bound config h good timed) in
    record {
      parts = λ part. rw (are.parts part)
          (omega (arith, sum_within config (waits_for part) h (part_within part) good timed by));
      branch = rw are.branch (omega (arith, sum_within config (λ d w. w.branch) h (λ d w n k. k.branch) good timed by));
      operand = rw are.operand
          (omega (arith, sum_within config (λ d w. w.operand) h (λ d w n k. k.operand) good timed by));
      address = rw are.address
          (omega (arith, sum_within config (λ d w. w.address) h (λ d w n k. k.address) good timed by));
      memory = rw are.memory (omega (arith, sum_within config (λ d w. w.memory) h (λ d w n k. k.memory) good timed by));
    }

pub waits_more : (config : Configuration) (xs : List Step) (x : Step)
    → waits_in config (xs ++ (x ∷ [])) ≡ waits_in config xs
    ++ (waits_of config (history config xs) (record { step = x; at = times_of config (history config xs) x }) ∷ [])
waits_more config xs x = rw (history_more config xs x) (reverse-append (_ ∷ []) (waits_over config (history config xs)))

length-waits_over : (config : Configuration) (h : List Done) → length (waits_over config h) ≡ length h
length-waits_over config [] = refl
length-waits_over config (d ∷ h) = ap suc (length-waits_over config h)

-- each step has its waits
pub length-waits_in : (config : Configuration) (xs : List Step) → length (waits_in config xs) ≡ length xs
length-waits_in config xs = length-reverse (waits_over config (history config xs))
    ∙ (length-waits_over config (history config xs) ∙ length-history config xs)

sum_over_waits : (config : Configuration) (h : List Done) (cause : Waits → ℕ)
    → sum_by cause (reverse (waits_over config h)) ≡ stalls_by cause config h
sum_over_waits config [] cause = refl
sum_over_waits config (d ∷ h) cause = rw (
  reverse-append (waits_of config h d ∷ []) (waits_over config h),
  sum_by_push cause (reverse (waits_over config h)) (waits_of config h d),
  sum_over_waits config h cause,
) (omega arith)

pub waits_add_up : WaitsAddUp
waits_add_up config steps cause = sum_over_waits config (history config steps) cause

pub bus_waits : BusWaitsAreStalls
bus_waits config h = refl

pub width_waits : WidthWaitsAreStalls
width_waits config h = refl

-- no step waits longer than the run takes
within_over : (config : Configuration) (h : List Done) (n : ℕ) → IsWithinLimits config → AreTimed config h
    → greatest_end h ≤ n → All (AreWithin n) (reverse (waits_over config h))
within_over config [] n good timed few = All-nil (AreWithin n)
within_over config (d ∷ h) n good timed few =
    let own = waits_within config h d n (reach config d h good timed) (omega arith) in
    let others = within_over config h n good timed.1 (omega arith) in
    rw (reverse-append (waits_of config h d ∷ []) (waits_over config h))
    (All-push (AreWithin n) (reverse (waits_over config h)) (waits_of config h d) others own)

pub waits_in_within : (config : Configuration) (xs : List Step) → IsWithinLimits config
    → All (AreWithin (67 * length xs)) (waits_in config xs)
waits_in_within config xs good =
    let timed = are_timed config xs good in
    let bound : greatest_end (history config xs) ≤ 67 * length (history config xs) =
    total_bound config (history config xs) good timed in
    let same : length (history config xs) ≡ length xs = length-history config xs in
    within_over config (history config xs) (67 * length xs) good timed (omega arith)
