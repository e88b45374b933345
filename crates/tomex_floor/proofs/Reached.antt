-- On a configuration with as many of each part as a run has steps the recurrence gives the floor.
use Rattle.std.proofs.Common.{ℕ, zero, suc, ◌+◌, ◌-◌, ◌<◌, ◌≤◌, ◌≡◌, ◌∙◌, Bool, true, arith, refl, ap, sym}
use Rattle.std.proofs.Common.{inl, inr, List, [], ◌∷◌, Option, Some, None, max, length}
use Rattle.std.specs.Prelude.{nat_lt, ◌==◌, ◌&&◌, ◌||◌, not, count_by, is_some, if◌then◌else◌}
use Rattle.std.specs.Bool.{MatchBool}
use Rattle.std.specs.List.{list_all}
use Rattle.std.proofs.lemmas.Bool.{cases_Bool, cases_order, and_from, eq-eqb, ne_eqb, lt-ltb, le-leb}
use Rattle.std.proofs.lemmas.List.Sums.{sum_by-cons, count_by-le-length}
use Rattle.tomex_rvdec.specs.declared.pool.PoolId.{PoolId}
use Rattle.tomex_rvdec.specs.declared.pool.PoolId.TheVariants as pools
use Rattle.tomex_rvdec.specs.declared.pool.UnitId.{UnitId}
use Rattle.tomex_rvdec.specs.declared.pool.UnitId.TheVariants as units
use Rattle.tomex_rvexec.specs.Steps.{step_pool, step_unit, step_dest, j_of, k_of, is_branch, is_number}
use Rattle.tomex_rvexec.specs.declared.step.Operand.{Operand}
use Rattle.tomex_rvexec.specs.declared.step.Step.{Step}
use Rattle.tomex_config.specs.Configuration.{stations_of, option_of}
use Rattle.tomex_timing.specs.declared.times.Done.{Done}
use Rattle.tomex_timing.specs.declared.times.Times.{Times}
use Rattle.tomex_floor.specs.Floor.{all_without_station, floor_address, floor_end, floor_from, floor_issue, floor_start}
use Rattle.tomex_floor.specs.Floor.{floor_times, floors_of, issue_back, last_finish, unlimited, without_station}
use Rattle.tomex_timing.specs.History.{is_of, is_memory, cycle_of, writer_end, source_end, last_issue, last_address}
use Rattle.tomex_timing.specs.History.{greatest_end}
use Rattle.tomex_floor.specs.Laws.{FloorsAreReached}
use Rattle.tomex_timing.specs.Recurrence.{IsLeast, IsTimed, AreTimed, EndsAfter, can_issue, can_issue_another}
use Rattle.tomex_timing.specs.Recurrence.{are_branches_finished, can_address, can_start, can_end, conflicts}
use Rattle.tomex_timing.specs.Search.{station_at}
use Rattle.tomex_timing.specs.Station.{has_station, is_held}
use Rattle.tomex_timing.proofs.Bound.{end_low}
use Rattle.tomex_floor.proofs.Above.{AreInOrder, address_low, in_order, issue_above, start_above}
use Rattle.tomex_floor.proofs.Falling.{from_issue, issue_next}
use Rattle.tomex_timing.proofs.Search.{station_is}

-- the floor's times with the least free stations

abbrev tagged : Times → Option ℕ → Times
tagged at n = record {
  issue = at.issue;
  address = at.address;
  start = at.start;
  finish = at.finish;
  end = at.end;
  station = n;
}

abbrev next : (UnitId → ℕ) → ℕ → ℕ → List Done → Step → Done
next latency w n older s = record {
  step = s;
  at = tagged (floor_times latency w older s)
      (station_at (unlimited latency w n) older (step_pool s) (floor_issue w older));
}

abbrev reached : (UnitId → ℕ) → ℕ → ℕ → List Step → List Done
reached latency w n [] = []
reached latency w n (s ∷ steps) = next latency w n (reached latency w n steps) s ∷ reached latency w n steps

-- there are n of each part

stations_many : (latency : UnitId → ℕ) (w n : ℕ) (pool : PoolId) → stations_of (unlimited latency w n) pool ≡ n
stations_many latency w n pools.Alu = refl
stations_many latency w n pools.Mul = refl
stations_many latency w n pools.Div = refl
stations_many latency w n pools.Load = refl
stations_many latency w n pools.Store = refl
stations_many latency w n pools.Bru = refl

units_many : (latency : UnitId → ℕ) (w n : ℕ) (unit : UnitId) → (option_of (unlimited latency w n) unit).units ≡ n
units_many latency w n units.Alu = refl
units_many latency w n units.Mul = refl
units_many latency w n units.Div = refl
units_many latency w n units.Mem = refl
units_many latency w n units.Bru = refl

latency_same : (latency : UnitId → ℕ) (w n : ℕ) (unit : UnitId)
    → (option_of (unlimited latency w n) unit).latency ≡ latency unit
latency_same latency w n units.Alu = refl
latency_same latency w n units.Mul = refl
latency_same latency w n units.Div = refl
latency_same latency w n units.Mem = refl
latency_same latency w n units.Bru = refl

fewer : (p : Done → Bool) (older : List Done) (n : ℕ) → length older < n → nat_lt (count_by p older) n ≡ true
fewer p older n l = let k = count_by-le-length p older in lt-ltb (count_by p older) n (omega (arith, k, l))

station_left : (latency : UnitId → ℕ) (w n : ℕ) (older : List Done) (pool : Option PoolId) (t : ℕ) → length older < n
    → has_station (unlimited latency w n) older pool t ≡ true
station_left latency w n older None t l = refl
station_left latency w n older (Some pool) t l = rw (stations_many latency w n pool) (fewer (is_held pool t) older n l)

-- the least that passes

least_from : (p : ℕ → Bool) (a : ℕ) → p a ≡ true → ((t : ℕ) → p t ≡ true → a ≤ t) → IsLeast p a
least_from p a here low = (
  here,
  λ t l. elim (cases_Bool (p t)) [
    | inl e ↦ let k = low t e in absurd (omega (arith, k, l))
    | inr e ↦ e
  ],
)

finished_all : (p : Step → Bool) (h : List Done) (t : ℕ) → last_finish p h < t
    → list_all (λ d. not (p d.step) || nat_lt d.at.finish t) h ≡ true
finished_all p [] t l = refl
finished_all p (d ∷ h) t l = elim (cases_Bool (p d.step)) [
  | inl e ↦
      let k : max d.at.finish (last_finish p h) < t = rw e at l in
      rw (e, lt-ltb d.at.finish t (omega (arith, k))) (finished_all p h t (omega (arith, k)))
  | inr e ↦ rw e (finished_all p h t (omega (arith, l)))
]

none_late : (h : List Done) (t : ℕ) → AreInOrder h → last_issue h < t → count_by (λ d. d.at.issue == t) h ≡ 0
none_late [] t o l = refl
none_late (d ∷ h) t o l =
    let k = o.0 in
    rw (
      sum_by-cons,
      ne_eqb d.at.issue t (λ (e : d.at.issue ≡ t). absurd (omega (arith, l, e))),
      none_late h t o.1 (omega (arith, k, l)),
    ) refl

back_few : (h : List Done) (n t : ℕ) → AreInOrder h → issue_back h n < t → count_by (λ d. d.at.issue == t) h ≤ n
back_few [] n t o l = omega arith
back_few (d ∷ h) zero t o l = rw (none_late (d ∷ h) t o l) (omega arith)
back_few (d ∷ h) (suc n) t o l =
    let rest = back_few h n t o.1 l in
    elim (cases_order d.at.issue t) [
      | inl e ↦ rw (sum_by-cons, eq-eqb d.at.issue t e) (omega (arith, rest))
      | inr (inl k) ↦
          rw (sum_by-cons, ne_eqb d.at.issue t (λ (e : d.at.issue ≡ t). absurd (omega (arith, k, e))))
          (omega (arith, rest))
      | inr (inr k) ↦
          rw (sum_by-cons, ne_eqb d.at.issue t (λ (e : d.at.issue ≡ t). absurd (omega (arith, k, e))))
          (omega (arith, rest))
    ]

issue_least : (latency : UnitId → ℕ) (w n : ℕ) (older : List Done) (s : Step) → 0 < w → length older < n
    → AreTimed (unlimited latency w n) older → last_issue older ≤ floor_issue w older
    → IsLeast (can_issue (unlimited latency w n) older s) (floor_issue w older)
issue_least latency w n older s some room timed after =
    let o = in_order (unlimited latency w n) older timed in
    let few = back_few older (w - 1) (floor_issue w older) o (omega arith) in
    let slot : can_issue_another (unlimited latency w n) older (floor_issue w older) ≡ true =
    and_from _ _ (le-leb (last_issue older) (floor_issue w older) after)
    (lt-ltb (count_by (λ d. d.at.issue == floor_issue w older) older) w (omega (arith, few, some))) in
    let branches : are_branches_finished older (floor_issue w older) ≡ true =
    finished_all is_branch older (floor_issue w older) (omega arith) in
    least_from (can_issue (unlimited latency w n) older s) (floor_issue w older)
    (and_from _ _ (and_from _ _ (and_from _ _ (lt-ltb 0 (floor_issue w older) (omega arith)) slot) branches)
    (station_left latency w n older (step_pool s) (floor_issue w older) room))
    (λ t can. issue_above (unlimited latency w n) w older s t timed (omega arith) can)

address_least : (older : List Done) (s : Step) (issue : ℕ)
    → MatchBool (is_memory s) (IsLeast (can_address older s issue) (cycle_of (floor_address older s issue)))
    (floor_address older s issue ≡ None)
address_least older s issue = elim (cases_Bool (is_memory s)) [
  | inl e ↦
      let t = 1 + max issue (max (source_end older (j_of s)) (last_address older)) in
      rw e (least_from (can_address older s issue) _ (and_from _ _ (and_from _ _ (lt-ltb issue _ (omega arith))
      (lt-ltb (source_end older (j_of s)) _ (omega arith))) (lt-ltb (last_address older) _ (omega arith)))
      (λ t can. address_low older s issue t can))
  | inr e ↦ rw e refl
]

start_least : (latency : UnitId → ℕ) (w n : ℕ) (older : List Done) (s : Step) (u : UnitId) (issue address : ℕ)
    → length older < n
    → IsLeast (can_start (unlimited latency w n) older s u issue address) (floor_start older s issue address)
start_least latency w n older s u issue address room =
    let j = lt-ltb (source_end older (j_of s)) (floor_start older s issue address) (omega arith) in
    let k = lt-ltb (source_end older (k_of s)) (floor_start older s issue address) (omega arith) in
    let c = finished_all (λ x. conflicts x s) older (floor_start older s issue address) (omega arith) in
    let left = fewer (λ d. is_of u (step_unit d.step) && d.at.start == floor_start older s issue address) older
    n room in
    least_from (can_start (unlimited latency w n) older s u issue address) (floor_start older s issue address)
    (and_from _ _ (and_from _ _ (and_from _ _ (and_from _ _
    (lt-ltb issue (floor_start older s issue address) (omega arith))
    (lt-ltb address (floor_start older s issue address) (omega arith))) (and_from _ _ j k)) c)
    (rw (units_many latency w n u) left))
    (λ t can. start_above (unlimited latency w n) older s u issue address t can)

end_least : (latency : UnitId → ℕ) (w n : ℕ) (older : List Done) (s : Step) (finish : ℕ) → length older < n
    → EndsAfter (unlimited latency w n) older s finish (floor_end s finish)
end_least latency w n older s finish room = elim (cases_Bool (is_some (step_dest s))) [
  | inl e ↦ rw e (least_from (can_end (unlimited latency w n) older finish) (finish + 1)
      (and_from _ _ (lt-ltb finish (finish + 1) (omega arith))
      (fewer (λ d. is_some (step_dest d.step) && d.at.end == finish + 1) older n room))
      (λ t can. let l = end_low (unlimited latency w n) older finish t can in omega (arith, l)))
  | inr e ↦ rw e refl
]

-- each step has the recurrence's times

step_is : (latency : UnitId → ℕ) (w n : ℕ) (older : List Done) (s : Step) (unit : Option UnitId) → step_unit s ≡ unit
    → 0 < w → length older < n → AreTimed (unlimited latency w n) older → last_issue older ≤ floor_issue w older
    → IsTimed (unlimited latency w n) older s
    (tagged (floor_from latency older s (floor_issue w older) (floor_address older s (floor_issue w older)) unit)
    (station_at (unlimited latency w n) older (step_pool s) (floor_issue w older)))
step_is latency w n older s None e some room timed after = record {
  issue = issue_least latency w n older s some room timed after;
  address = address_least older s (floor_issue w older);
  start = rw e refl;
  finish = rw e refl;
  end = rw e refl;
  station = station_is (unlimited latency w n) older (step_pool s) (floor_issue w older)
      (station_left latency w n older (step_pool s) (floor_issue w older) room);
}
step_is latency w n older s (Some u) e some room timed after = record {
  issue = issue_least latency w n older s some room timed after;
  address = address_least older s (floor_issue w older);
  start = rw e (start_least latency w n older s u (floor_issue w older)
      (cycle_of (floor_address older s (floor_issue w older))) room);
  finish = rw (e, latency_same latency w n u) refl;
  end = rw e (end_least latency w n older s _ room);
  station = station_is (unlimited latency w n) older (step_pool s) (floor_issue w older)
      (station_left latency w n older (step_pool s) (floor_issue w older) room);
}

length_reached : (latency : UnitId → ℕ) (w n : ℕ) (steps : List Step)
    → length (reached latency w n steps) ≡ length steps
length_reached latency w n [] = refl
length_reached latency w n (s ∷ steps) = ap suc (length_reached latency w n steps)

after_last : (latency : UnitId → ℕ) (w n : ℕ) (steps : List Step)
    → AreTimed (unlimited latency w n) (reached latency w n steps)
    → last_issue (reached latency w n steps) ≤ floor_issue w (reached latency w n steps)
after_last latency w n [] timed = omega arith
after_last latency w n (s ∷ steps) timed =
    issue_next w (next latency w n (reached latency w n steps) s) (reached latency w n steps)
    (in_order (unlimited latency w n) (reached latency w n (s ∷ steps)) timed)
    (from_issue latency (reached latency w n steps) s _ _ (step_unit s))

reached_timed : (latency : UnitId → ℕ) (w n : ℕ) (steps : List Step) → 0 < w → length steps ≤ n
    → AreTimed (unlimited latency w n) (reached latency w n steps)
reached_timed latency w n [] some room = tt
reached_timed latency w n (s ∷ steps) some room =
    let rest = reached_timed latency w n steps some (omega arith) in
    let e = length_reached latency w n steps in (
      step_is latency w n (reached latency w n steps) s (step_unit s) refl some (omega (arith, e, room)) rest
          (after_last latency w n steps rest),
      rest,
    )

-- and they are the floor's, except for the stations

finish_without : (p : Step → Bool) (h : List Done) → last_finish p (all_without_station h) ≡ last_finish p h
finish_without p [] = refl
finish_without p (d ∷ h) = ap (λ n. max (if p d.step then d.at.finish else 0) n) (finish_without p h)

back_without : (h : List Done) (n : ℕ) → issue_back (all_without_station h) n ≡ issue_back h n
back_without [] n = refl
back_without (d ∷ h) zero = refl
back_without (d ∷ h) (suc n) = back_without h n

writer_without : (h : List Done) (r : ℕ) → writer_end (all_without_station h) r ≡ writer_end h r
writer_without [] r = refl
writer_without (d ∷ h) r = ap (λ n. if is_number (step_dest d.step) r then d.at.end else n) (writer_without h r)

source_without : (h : List Done) (o : Option Operand) → source_end (all_without_station h) o ≡ source_end h o
source_without h None = refl
source_without h (Some o) = writer_without h o.register

address_without : (h : List Done) → last_address (all_without_station h) ≡ last_address h
address_without [] = refl
address_without (d ∷ h) = ap (λ n. if is_memory d.step then cycle_of d.at.address else n) (address_without h)

end_without : (h : List Done) → greatest_end (all_without_station h) ≡ greatest_end h
end_without [] = refl
end_without (d ∷ h) = ap (λ n. max d.at.end n) (end_without h)

issue_same : (w : ℕ) (h : List Done) → floor_issue w (all_without_station h) ≡ floor_issue w h
issue_same w h =
    let a = finish_without is_branch h in let b = back_without h (w - 1) in omega (arith, a, b)

floor_address_same : (h : List Done) (s : Step) (issue : ℕ)
    → floor_address (all_without_station h) s issue ≡ floor_address h s issue
floor_address_same h s issue =
    let low : 1 + max issue (max (source_end (all_without_station h) (j_of s)) (last_address (all_without_station h)))
    ≡ 1 + max issue (max (source_end h (j_of s)) (last_address h)) =
    (let a = source_without h (j_of s) in let b = address_without h in omega (arith, a, b)) in
    ap (λ n. if is_memory s then Some n else None) low

start_same : (h : List Done) (s : Step) (issue address : ℕ)
    → floor_start (all_without_station h) s issue address ≡ floor_start h s issue address
start_same h s issue address =
    let a = source_without h (j_of s) in
    let b = source_without h (k_of s) in
    let c = finish_without (λ x. conflicts x s) h in
    omega (arith, a, b, c)

abbrev from_start : ℕ → Option ℕ → Step → ℕ → ℕ → Times
from_start issue address s latency start = record {
  issue = issue;
  address = address;
  start = start;
  finish = start + latency - 1;
  end = floor_end s (start + latency - 1);
  station = None;
}

from_same : (latency : UnitId → ℕ) (h : List Done) (s : Step) (issue : ℕ) (address : Option ℕ) (unit : Option UnitId)
    → floor_from latency (all_without_station h) s issue address unit ≡ floor_from latency h s issue address unit
from_same latency h s issue address None = refl
from_same latency h s issue address (Some u) =
    ap (from_start issue address s (latency u)) (start_same h s issue (cycle_of address))

times_same : (latency : UnitId → ℕ) (w : ℕ) (h : List Done) (s : Step)
    → floor_times latency w (all_without_station h) s ≡ floor_times latency w h s
times_same latency w h s =
    let f = all_without_station h in
    let a = ap (λ i. floor_from latency f s i (floor_address f s i) (step_unit s)) (issue_same w h) in
    let b = ap (λ x. floor_from latency f s (floor_issue w h) x (step_unit s))
    (floor_address_same h s (floor_issue w h)) in
    a ∙ (b ∙ from_same latency h s (floor_issue w h) (floor_address h s (floor_issue w h)) (step_unit s))

untagged : (latency : UnitId → ℕ) (h : List Done) (s : Step) (issue : ℕ) (address : Option ℕ) (unit : Option UnitId)
    (n : Option ℕ) → without_station (tagged (floor_from latency h s issue address unit) n)
    ≡ floor_from latency h s issue address unit
untagged latency h s issue address None n = refl
untagged latency h s issue address (Some u) n = refl

reached_floors : (latency : UnitId → ℕ) (w n : ℕ) (steps : List Step)
    → all_without_station (reached latency w n steps) ≡ floors_of latency w steps
reached_floors latency w n [] = refl
reached_floors latency w n (s ∷ steps) =
    let h = reached latency w n steps in
    let rest : all_without_station h ≡ floors_of latency w steps = reached_floors latency w n steps in
    let a = untagged latency h s (floor_issue w h) (floor_address h s (floor_issue w h)) (step_unit s)
    (station_at (unlimited latency w n) h (step_pool s) (floor_issue w h)) in
    let b = sym (times_same latency w h s) in
    let c = ap (λ x. floor_times latency w x s) rest in
    let d = a ∙ (b ∙ c) in
    let first : Times → List Done = λ (x : Times). record { step = s; at = x } ∷ all_without_station h in
    let second : List Done → List Done =
    λ (x : List Done). record { step = s; at = floor_times latency w (floors_of latency w steps) s } ∷ x in
    ap first d ∙ ap second rest

pub floors_reached : FloorsAreReached
floors_reached latency w n steps some room =
    let e = reached_floors latency w n steps in (
      reached latency w n steps,
      reached_timed latency w n steps some room,
      e,
      sym (end_without (reached latency w n steps)) ∙ ap greatest_end e,
    )
