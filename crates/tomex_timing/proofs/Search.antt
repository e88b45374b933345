-- The search finds the recurrence's times, and there are no others.
use Rattle.std.proofs.Common.{ℕ, ◌+◌, ◌<◌, ◌≤◌, ◌≡◌, ◌∙◌, true, arith, refl, List, [], ◌∷◌, Option, Some, None, ap, inl}
use Rattle.std.proofs.Common.{inr, sym, is_some, MatchOption, map}
use Rattle.std.specs.Bool.{MatchBool}
use Rattle.std.proofs.lemmas.Bool.{cases_Bool, and_parts, MatchBool-at_true, MatchBool-at_false}
use Rattle.tomex_rvdec.specs.declared.pool.PoolId.{PoolId}
use Rattle.tomex_rvdec.specs.declared.pool.UnitId.{UnitId}
use Rattle.tomex_rvexec.specs.Steps.{step_pool, step_unit, step_dest}
use Rattle.tomex_rvexec.specs.declared.step.Step.{Step}
use Rattle.tomex_config.specs.Configuration.{Configuration, IsWithinLimits, option_of}
use Rattle.tomex_timing.specs.declared.times.Done.{Done}
use Rattle.tomex_timing.specs.declared.times.Times.{Times}
use Rattle.tomex_timing.specs.History.{is_memory, cycle_of, greatest_end}
use Rattle.tomex_timing.specs.Station.{has_station, is_free}
use Rattle.tomex_timing.specs.Recurrence.{IsLeast, IsTimed, AreTimed, can_issue, can_address, can_start, can_end}
use Rattle.tomex_timing.specs.Search.{issue_of, address_at, start_of, end_of, station_at, times_from, times_of}
use Rattle.tomex_timing.specs.Search.{timed_of}
use Rattle.tomex_timing.proofs.Bound.{timed_by}
use Rattle.tomex_timing.proofs.Least.{least_is, least_le, least_same}
use Rattle.tomex_timing.proofs.Limits.{latency_high}
use Rattle.tomex_timing.proofs.AfterEnd.{AllBy, can_issue_after, can_address_after, can_start_after, can_end_after}
use Rattle.tomex_timing.proofs.Stations.{number_is}
use Rattle.tomex_timing.proofs.Tests.{IsAtOnce, IsOperation, at_once, can_address_is, cases_unit, operation}

issue_is : (config : Configuration) (older : List Done) (s : Step) (g : ℕ) → IsWithinLimits config → AllBy g older
    → IsLeast (can_issue config older s) (issue_of config older s g)
issue_is config older s g good h = least_is (can_issue config older s) (g + 1) (can_issue_after config older s g good h)

address_is : (config : Configuration) (older : List Done) (s : Step) (issue g : ℕ) → AllBy g older → issue ≤ g + 1
    → MatchBool (is_memory s) (IsLeast (can_address older s issue) (cycle_of (address_at older s issue g)))
    (address_at older s issue g ≡ None)
address_is config older s issue g h i = elim (cases_Bool (is_memory s)) [
  | inl e ↦ rw e (least_is (can_address older s issue) (g + 2) (can_address_after older s issue g h i))
  | inr e ↦ rw e refl
]

end_is : (config : Configuration) (older : List Done) (s : Step) (finish g : ℕ) → IsWithinLimits config → AllBy g older
    → finish ≤ g + 66 → MatchBool (is_some (step_dest s))
    (IsLeast (can_end config older finish) (end_of config older s finish g)) (end_of config older s finish g ≡ finish)
end_is config older s finish g good h f = elim (cases_Bool (is_some (step_dest s))) [
  | inl e ↦ rw e (least_is (can_end config older finish) (g + 67)
      (can_end_after config older finish g (g + 67) good h (omega arith) (omega arith)))
  | inr e ↦ rw e refl
]

address_low : (older : List Done) (s : Step) (issue g : ℕ) → AllBy g older → issue ≤ g + 1
    → cycle_of (address_at older s issue g) ≤ g + 2
address_low older s issue g h i = elim (cases_Bool (is_memory s)) [
  | inl e ↦ rw e (least_le (can_address older s issue) _ (g + 2)
      (least_is (can_address older s issue) (g + 2) (can_address_after older s issue g h i))
      (can_address_after older s issue g h i))
  | inr e ↦ rw e (omega arith)
]

pub station_is : (config : Configuration) (older : List Done) (pool : Option PoolId) (t : ℕ)
    → has_station config older pool t ≡ true
    → MatchOption pool (station_at config older pool t ≡ None) (λ p. (n : ℕ) × (station_at config older pool t ≡ Some n)
    × IsLeast (is_free p older t) n)
station_is config older None t h = refl
station_is config older (Some p) t h = (_, refl, (number_is config older p t h).0)

-- the last conjunct of the test for issue
pub issue_station : (config : Configuration) (older : List Done) (s : Step) (t : ℕ) → can_issue config older s t ≡ true
    → has_station config older (step_pool s) t ≡ true
issue_station config older s t h = (and_parts _ _ h).1

times_are_from : (config : Configuration) (older : List Done) (s : Step) (g : ℕ) (unit : Option UnitId)
    → step_unit s ≡ unit → IsWithinLimits config → AllBy g older
    → IsTimed config older s (times_from config older s g (issue_of config older s g)
    (address_at older s (issue_of config older s g) g) unit)
times_are_from config older s g None e good h =
    let i : IsLeast (can_issue config older s) (issue_of config older s g) = issue_is config older s g good h in
    let by : issue_of config older s g ≤ g + 1 =
    least_le (can_issue config older s) _ (g + 1) i (can_issue_after config older s g good h) in
    record {
      issue = i;
      address = address_is config older s _ g h by;
      start = rw e refl;
      finish = rw e refl;
      end = rw e refl;
      station = station_is config older (step_pool s) _ (issue_station config older s _ i.0);
    }
times_are_from config older s g (Some u) e good h =
    let issue = issue_of config older s g in
    let address = address_at older s issue g in
    let start = start_of config older s u issue (cycle_of address) g in
    let i : IsLeast (can_issue config older s) issue = issue_is config older s g good h in
    let by : issue ≤ g + 1 =
    least_le (can_issue config older s) _ (g + 1) i (can_issue_after config older s g good h) in
    let a : cycle_of address ≤ g + 2 = address_low older s _ g h by in
    let can = can_start_after config older s u issue (cycle_of address) g good h by a in
    let st : IsLeast (can_start config older s u issue (cycle_of address)) start =
    least_is (can_start config older s u _ _) (g + 3) can in
    let late : start ≤ g + 3 = least_le _ _ (g + 3) st can in
    let l : (option_of config u).latency ≤ 64 = latency_high config u good in
    record {
      issue = i;
      address = address_is config older s _ g h by;
      start = rw e st;
      finish = rw e refl;
      end = rw e (end_is config older s _ g good h (omega arith));
      station = station_is config older (step_pool s) _ (issue_station config older s _ i.0);
    }

-- the function's times are those of the relation
pub times_are : (config : Configuration) (older : List Done) (s : Step) → IsWithinLimits config → AreTimed config older
    → IsTimed config older s (times_of config older s)
unfolding times_of
times_are config older s good timed =
    times_are_from config older s (greatest_end older) (step_unit s) refl good (timed_by config older good timed)

pub timed_is : (config : Configuration) (steps : List Step) → IsWithinLimits config
    → AreTimed config (timed_of config steps)
timed_is config [] good = tt
timed_is config (s ∷ older) good = let earlier = timed_is config older good in
    (times_are config (timed_of config older) s good earlier, earlier)

abbrev times_made : (issue : ℕ) (address : Option ℕ) (start finish end : ℕ) (station : Option ℕ) → Times
times_made i a s f e n = record { issue = i; address = a; start = s; finish = f; end = e; station = n }

same_record : (a b : Times) → a.issue ≡ b.issue → a.address ≡ b.address → a.start ≡ b.start → a.finish ≡ b.finish
    → a.end ≡ b.end → a.station ≡ b.station → a ≡ b
same_record a b e1 e2 e3 e4 e5 e6 =
    let e : times_made a.issue a.address a.start a.finish a.end a.station
    ≡ times_made b.issue b.address b.start b.finish b.end b.station =
    rw (e1, e2, e3, e4, e5, e6) refl in
    e

same_end : (config : Configuration) (older : List Done) (s : Step) (f a b : ℕ)
    → MatchBool (is_some (step_dest s)) (IsLeast (can_end config older f) a) (a ≡ f)
    → MatchBool (is_some (step_dest s)) (IsLeast (can_end config older f) b) (b ≡ f) → a ≡ b
same_end config older s f a b x y = elim (cases_Bool (is_some (step_dest s))) [
  | inl e ↦ least_same (can_end config older f) a b (MatchBool-at_true _ _ e x) (MatchBool-at_true _ _ e y)
  | inr e ↦ let p : a ≡ f = MatchBool-at_false (IsLeast (can_end config older f) a) _ e x in
      let q : b ≡ f = MatchBool-at_false (IsLeast (can_end config older f) b) _ e y in cc
]

-- two cycles above 0 that are the same
same_cycle : (a b : Option ℕ) → 0 < cycle_of a → 0 < cycle_of b → cycle_of a ≡ cycle_of b → a ≡ b
same_cycle None b x y e = absurd (omega arith)
same_cycle (Some m) None x y e = absurd (omega arith)
same_cycle (Some m) (Some n) x y e = ap Some e

pub address_pos : (older : List Done) (s : Step) (i t : ℕ) → can_address older s i t ≡ true → 0 < t
address_pos older s i t h = omega (arith, (can_address_is older s i t h).after_issue)

same_address : (older : List Done) (s : Step) (i : ℕ) (a b : Option ℕ)
    → MatchBool (is_memory s) (IsLeast (can_address older s i) (cycle_of a)) (a ≡ None)
    → MatchBool (is_memory s) (IsLeast (can_address older s i) (cycle_of b)) (b ≡ None) → a ≡ b
same_address older s i a b x y = elim (cases_Bool (is_memory s)) [
  | inl e ↦
      let p : IsLeast (can_address older s i) (cycle_of a) = MatchBool-at_true _ _ e x in
      let q : IsLeast (can_address older s i) (cycle_of b) = MatchBool-at_true _ _ e y in
      same_cycle a b (address_pos older s i _ p.0) (address_pos older s i _ q.0)
      (least_same (can_address older s i) _ _ p q)
  | inr e ↦ let p : a ≡ None = MatchBool-at_false (IsLeast (can_address older s i) (cycle_of a)) _ e x in
      let q : b ≡ None = MatchBool-at_false (IsLeast (can_address older s i) (cycle_of b)) _ e y in p ∙ sym q
]

same_station : (older : List Done) (pool : Option PoolId) (t : ℕ) (a b : Option ℕ)
    → MatchOption pool (a ≡ None) (λ p. (n : ℕ) × (a ≡ Some n) × IsLeast (is_free p older t) n)
    → MatchOption pool (b ≡ None) (λ p. (n : ℕ) × (b ≡ Some n) × IsLeast (is_free p older t) n) → a ≡ b
same_station older None t a b x y = x ∙ sym y
same_station older (Some p) t a b x y = x.1 ∙ (ap Some (least_same (is_free p older t) x.0 y.0 x.2 y.2) ∙ sym y.1)

same_run : (config : Configuration) (older : List Done) (s : Step) (a b : Times) → IsTimed config older s a
    → IsTimed config older s b → a.issue ≡ b.issue → a.address ≡ b.address
    → (a.start ≡ b.start) × (a.finish ≡ b.finish) × (a.end ≡ b.end)
same_run config older s a b x y i d = elim (cases_unit s) [
  | inl none ↦
      let p : IsAtOnce a = at_once none x in
      let q : IsAtOnce b = at_once none y in
      (omega arith, omega arith, omega arith)
  | inr u ↦
      let p : IsOperation config older s u.0 a = operation u.1 x in
      let q : IsOperation config older s u.0 b = operation u.1 y in
      let start : a.start ≡ b.start = least_same (can_start config older s u.0 a.issue (cycle_of a.address)) a.start
      b.start p.start (rw (← i, ← d) at q.start) in
      let finish : a.finish ≡ b.finish = omega arith in
      (start, finish, same_end config older s a.finish a.end b.end p.end (rw (← finish) at q.end))
]

pub times_same : (config : Configuration) (older : List Done) (s : Step) (a b : Times) → IsTimed config older s a
    → IsTimed config older s b → a ≡ b
times_same config older s a b x y =
    let i : a.issue ≡ b.issue = least_same (can_issue config older s) a.issue b.issue x.issue y.issue in
    let d : a.address ≡ b.address =
    same_address older s a.issue a.address b.address x.address (rw (← i) at y.address) in
    let run = same_run config older s a b x y i d in
    same_record a b i d run.0 run.1 run.2
    (same_station older (step_pool s) a.issue a.station b.station x.station (rw (← i) at y.station))

-- a history with the relation's times is the function's
pub timed_of-same : (config : Configuration) (h : List Done) → IsWithinLimits config → AreTimed config h
    → h ≡ timed_of config (map (λ d. d.step) h)
timed_of-same config [] good timed = refl
timed_of-same config (d ∷ older) good timed =
    let at : d.at ≡ times_of config older d.step =
    times_same config older d.step d.at (times_of config older d.step) timed.0
    (times_are config older d.step good timed.1) in
    rw (← timed_of-same config older good timed.1, ← at) refl
