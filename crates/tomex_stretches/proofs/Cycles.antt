-- Of the steps with some keys: what they have of their stretches' floors is at most what they have of the run's cycles.
-- Before a step, its stretch is as far behind its floor as it has taken more cycles than that so far.
use Rattle.std.proofs.Common.{ℕ, ◌+◌, ◌-◌, ◌<◌, ◌≤◌, ◌≡◌, ◌∙◌, Bool}
use Rattle.std.proofs.Common.{true, false, arith, refl, ap, subst, sym, inl, inr}
use Rattle.std.proofs.Common.{List, [], ◌∷◌, ◌++◌, Option, Some, None, length, sum, take}
use Rattle.std.specs.Prelude.{if◌then◌else◌}
use Rattle.std.proofs.lemmas.Bool.{cases_Bool, cases_lt, and_from, eq-eqb, eqb-true, lt-ltb}
use Rattle.std.proofs.lemmas.List.Sums.{sum_by-cons}
use Rattle.tomex_rvdec.specs.declared.pool.PoolId.{PoolId}
use Rattle.tomex_rvdec.specs.declared.pool.UnitId.{UnitId}
use Rattle.tomex_rvexec.specs.Steps.{step_pool, step_unit}
use Rattle.tomex_rvexec.specs.declared.step.Step.{Step}
use Rattle.tomex_config.specs.Configuration.{Configuration, IsWithinLimits, option_of, stations_of}
use Rattle.tomex_timing.specs.declared.times.Done.{Done}
use Rattle.tomex_timing.specs.History.{greatest_end, last_issue}
use Rattle.tomex_timing.specs.Recurrence.{AreTimed, can_issue}
use Rattle.tomex_timing.specs.Station.{has_station}
use Rattle.tomex_timing.proofs.Limits.{stations_low, width_low}
use Rattle.tomex_timing.proofs.Width.{issue_from}
use Rattle.tomex_floor.specs.Floor.{floor_issue, floor_times, floors_of, unlimited}
use Rattle.tomex_floor.proofs.Above.{AreInOrder}
use Rattle.tomex_floor.proofs.Falling.{from_issue, issue_next}
use Rattle.tomex_floor.proofs.Reached.{floors_reached}
use Rattle.tomex_stretches.specs.Cycles.{cycles_before, floor_cycles, floors_before, is_same}
use Rattle.tomex_stretches.specs.Cycles.{own_cycles, stretch_of, sum_where}
use Rattle.tomex_stretches.specs.Laws.{CyclesAddUp, FloorCyclesAddUp, FloorsAreBounds, StretchesAddUp}
use Rattle.tomex_stretches.specs.Stretch.{oldest, steps_of}
use Rattle.tomex_stretches.proofs.From.{issue_pos, last_stretch_is_bound, later_from, stretch_is_bound}
use Rattle.tomex_stretches.proofs.Whole.{first_ends, latency_same, steps_of_floors, steps_without}

-- keys

pub same_self : (key : Option ℕ) → is_same key key ≡ true
same_self None = refl
same_self (Some n) = eq-eqb n n refl

pub same_is : (k key : Option ℕ) → is_same k key ≡ true → k ≡ key
same_is None None e = refl
same_is None (Some n) e = absurd (cc)
same_is (Some m) None e = absurd (cc)
same_is (Some m) (Some n) e = ap Some (eqb-true m n e)

-- the steps of a history in the stretch of one with this key, with their times, and those before
abbrev part : Option ℕ → List Done → List (Option ℕ) → List Done
part key [] keys = []
part key (d ∷ older) [] = []
part key (d ∷ older) (k ∷ keys) = if is_same k key then d ∷ part key older keys else []

abbrev rest : Option ℕ → List Done → List (Option ℕ) → List Done
rest key [] keys = []
rest key (d ∷ older) [] = d ∷ older
rest key (d ∷ older) (k ∷ keys) = if is_same k key then rest key older keys else d ∷ older

part_whole : (key : Option ℕ) (h : List Done) (keys : List (Option ℕ)) → part key h keys ++ rest key h keys ≡ h
part_whole key [] keys = refl
part_whole key (d ∷ older) [] = refl
part_whole key (d ∷ older) (k ∷ keys) = elim (cases_Bool (is_same k key)) [
  | inl e ↦ rw e (ap (λ x. d ∷ x) (part_whole key older keys))
  | inr e ↦ rw e refl
]

part_steps : (key : Option ℕ) (h : List Done) (keys : List (Option ℕ))
    → steps_of (part key h keys) ≡ stretch_of key (steps_of h) keys
part_steps key [] keys = refl
part_steps key (d ∷ older) [] = refl
part_steps key (d ∷ older) (k ∷ keys) = elim (cases_Bool (is_same k key)) [
  | inl e ↦ rw e (ap (λ x. d.step ∷ x) (part_steps key older keys))
  | inr e ↦ rw e refl
]

-- the issue of the first step of the stretch that a step with this key ends
abbrev begin_of : Done → Option ℕ → List Done → List (Option ℕ) → ℕ
begin_of d key older keys = (oldest d (part key older keys)).at.issue

-- that step's issue on the stretch's floor, and the next one's
abbrev low : (UnitId → ℕ) → ℕ → Done → Option ℕ → List Done → List (Option ℕ) → ℕ
low latency w d key older keys = last_issue (floors_of latency w (d.step ∷ stretch_of key (steps_of older) keys))

abbrev next_low : (UnitId → ℕ) → ℕ → Done → Option ℕ → List Done → List (Option ℕ) → ℕ
next_low latency w d key older keys =
    floor_issue w (floors_of latency w (d.step ∷ stretch_of key (steps_of older) keys))

-- issues on a floor are in order

pub low_issue : (latency : UnitId → ℕ) (w : ℕ) (s : Step) (xs : List Step)
    → last_issue (floors_of latency w (s ∷ xs)) ≡ floor_issue w (floors_of latency w xs)
low_issue latency w s xs = from_issue latency (floors_of latency w xs) s _ _ (step_unit s)

floors_in_order : (latency : UnitId → ℕ) (w : ℕ) (steps : List Step) → AreInOrder (floors_of latency w steps)
floors_in_order latency w [] = tt
floors_in_order latency w (s ∷ []) = (omega arith, tt)
floors_in_order latency w (s ∷ (x ∷ xs)) =
    let older = floors_in_order latency w (x ∷ xs) in
    let n = issue_next w (record { step = x; at = floor_times latency w (floors_of latency w xs) x })
    (floors_of latency w xs) older (low_issue latency w x xs) in
    let g = low_issue latency w s (x ∷ xs) in
    (omega (arith, n, g), older)

pub low_next : (latency : UnitId → ℕ) (w : ℕ) (s : Step) (xs : List Step)
    → last_issue (floors_of latency w (s ∷ xs)) ≤ floor_issue w (floors_of latency w (s ∷ xs))
low_next latency w s xs =
    issue_next w (record { step = s; at = floor_times latency w (floors_of latency w xs) s }) (floors_of latency w xs)
    (floors_in_order latency w (s ∷ xs)) (low_issue latency w s xs)

low_first : (latency : UnitId → ℕ) (w : ℕ) (s : Step) → last_issue (floors_of latency w (s ∷ [])) ≡ 1
low_first latency w s = low_issue latency w s []

-- the floor cycles of a stretch add up to its floor

abbrev AddUp : (UnitId → ℕ) → ℕ → Option ℕ → Step → List Step → List (Option ℕ) → Type 0
AddUp latency w key s older keys =
    sum (take (length (s ∷ stretch_of key older keys)) (floors_before latency w (s ∷ older) (key ∷ keys))) + 1
    ≡ floor_issue w (floors_of latency w (s ∷ stretch_of key older keys))

total_same : (latency : UnitId → ℕ) (w : ℕ) (key : Option ℕ) (s x : Step) (older : List Step) (keys : List (Option ℕ))
    → AddUp latency w key x older keys → AddUp latency w key s (x ∷ older) (key ∷ keys)
total_same latency w key s x older keys before =
    let f = low_issue latency w s (x ∷ stretch_of key older keys) in
    let n = low_next latency w s (x ∷ stretch_of key older keys) in
    rw (same_self key, sum_by-cons (λ (n : ℕ). n)) (omega (arith, f, n, before))

total_before : (latency : UnitId → ℕ) (w : ℕ) (key : Option ℕ) (s : Step) (older : List Step) (keys : List (Option ℕ))
    → AddUp latency w key s older keys
total_before latency w key s [] keys =
    let f = low_first latency w s in
    let n = low_next latency w s [] in
    rw sum_by-cons (omega (arith, f, n))
total_before latency w key s (x ∷ older) [] =
    let f = low_first latency w s in
    let n = low_next latency w s [] in
    rw sum_by-cons (omega (arith, f, n))
total_before latency w key s (x ∷ older) (k ∷ keys) = elim (cases_Bool (is_same k key)) [
  | inl e ↦
      subst (λ (y : Option ℕ). AddUp latency w y s (x ∷ older) (k ∷ keys)) (same_is k key e)
      (total_same latency w k s x older keys (total_before latency w k x older keys))
  | inr e ↦
      let f = low_first latency w s in
      let n = low_next latency w s [] in
      rw (e, sum_by-cons (λ (n : ℕ). n)) (omega (arith, f, n))
]

pub stretches_add_up : StretchesAddUp
stretches_add_up latency w key s next older keys =
    let t = total_before latency w key s older keys in
    let f = low_issue latency w next (s ∷ stretch_of key older keys) in
    omega (arith, t, f)

sum_none : (p : Option ℕ → Bool) (keys : List (Option ℕ)) → sum_where p keys [] ≡ 0
sum_none p [] = refl
sum_none p (k ∷ keys) = refl

-- what a stretch takes so far, at least its floor

first_pos : (config : Configuration) (d : Done) (h older : List Done) → AreTimed config ((d ∷ h) ++ older)
    → 0 < (oldest d h).at.issue
first_pos config d [] older timed = issue_pos config older d timed
first_pos config d (e ∷ h) older timed = first_pos config e h older timed.1

-- a stretch that goes on, and one that begins

begin_same : (key : Option ℕ) (d e : Done) (older : List Done) (keys : List (Option ℕ))
    → begin_of d key (e ∷ older) (key ∷ keys) ≡ begin_of e key older keys
begin_same key d e older keys = rw (same_self key, begin_of) refl

low_same : (latency : UnitId → ℕ) (w : ℕ) (key : Option ℕ) (d e : Done) (older : List Done) (keys : List (Option ℕ))
    → low latency w d key (e ∷ older) (key ∷ keys) ≡ next_low latency w e key older keys
low_same latency w key d e older keys =
    rw (same_self key) (low_issue latency w d.step (e.step ∷ stretch_of key (steps_of older) keys))

begin_other : (key k : Option ℕ) (d e : Done) (older : List Done) (keys : List (Option ℕ)) → is_same k key ≡ false
    → begin_of d key (e ∷ older) (k ∷ keys) ≡ d.at.issue
begin_other key k d e older keys other = rw (other, begin_of) refl

low_other : (latency : UnitId → ℕ) (w : ℕ) (key k : Option ℕ) (d e : Done) (older : List Done) (keys : List (Option ℕ))
    → is_same k key ≡ false → low latency w d key (e ∷ older) (k ∷ keys) ≡ 1
low_other latency w key k d e older keys other = rw other (low_first latency w d.step)

module _ (config : Configuration) (latency : UnitId → ℕ) (w : ℕ) (narrow : config.width ≤ w)
    (slow : (unit : UnitId) → latency unit ≤ (option_of config unit).latency) where
  begin_before : (key : Option ℕ) (d : Done) (older : List Done) (keys : List (Option ℕ)) → AreTimed config (d ∷ older)
      → (0 < begin_of d key older keys) × (begin_of d key older keys ≤ d.at.issue)
  begin_before key d older keys timed =
      let all : AreTimed config ((d ∷ part key older keys) ++ rest key older keys) =
      rw (part_whole key older keys) timed in
      let later = (later_from config d (part key older keys) (rest key older keys) all).0 in
      (first_pos config d (part key older keys) (rest key older keys) all, omega (arith, later))

  within : (key : Option ℕ) (d : Done) (older : List Done) (keys : List (Option ℕ)) → AreTimed config (d ∷ older)
      → low latency w d key older keys + begin_of d key older keys ≤ d.at.issue + 1
  within key d older keys timed =
      let all : AreTimed config ((d ∷ part key older keys) ++ rest key older keys) =
      rw (part_whole key older keys) timed in
      let bound = rw (part_steps key older keys) at
      (stretch_is_bound config latency w (d ∷ part key older keys) (rest key older keys) all narrow
      (λ u. inl (slow u))) in
      let b = begin_before key d older keys timed in
      let pos = b.0 in
      let early = b.1 in
      omega (arith, bound, pos, early)

  next_within : (key : Option ℕ) (n d : Done) (older : List Done) (keys : List (Option ℕ))
      → AreTimed config (n ∷ d ∷ older)
      → next_low latency w d key older keys + begin_of d key older keys ≤ n.at.issue + 1
  next_within key n d older keys timed =
      let all : AreTimed config ((n ∷ d ∷ part key older keys) ++ rest key older keys) =
      rw (part_whole key older keys) timed in
      let bound = rw (part_steps key older keys) at
      (stretch_is_bound config latency w (n ∷ d ∷ part key older keys) (rest key older keys) all narrow
      (λ u. inl (slow u))) in
      let f = low_issue latency w n.step (d.step ∷ stretch_of key (steps_of older) keys) in
      let b = begin_before key d older keys timed.1 in
      let pos = b.0 in
      let early = b.1 in
      let order : d.at.issue ≤ n.at.issue = issue_from config (d ∷ older) n.step n.at.issue timed.0.issue.0 in
      omega (arith, bound, f, pos, early, order)

  end_within : (key : Option ℕ) (d : Done) (older : List Done) (keys : List (Option ℕ)) → AreTimed config (d ∷ older)
      → greatest_end (floors_of latency w (d.step ∷ stretch_of key (steps_of older) keys))
      + begin_of d key older keys ≤ greatest_end (d ∷ older) + 1
  end_within key d older keys timed =
      let all : AreTimed config ((d ∷ part key older keys) ++ rest key older keys) =
      rw (part_whole key older keys) timed in
      let bound = rw (part_steps key older keys, part_whole key older keys) at
      (last_stretch_is_bound config latency w (d ∷ part key older keys) (rest key older keys) all narrow
      (λ u. inl (slow u))) in
      let b = begin_before key d older keys timed in
      let early = b.1 in
      let ends : d.at.issue ≤ greatest_end (d ∷ older) = first_ends config d [] older timed in
      omega (arith, bound, early, ends)

  -- how much longer than its floor a stretch has taken up to a step's issue
  abbrev above : Done → Option ℕ → List Done → List (Option ℕ) → ℕ
  above d key older keys = d.at.issue + 1 - begin_of d key older keys - low latency w d key older keys

  module _ (p : Option ℕ → Bool) where
    -- Up to a step's issue, the steps before it have taken at least their floor cycles, and what its stretch has above
    -- its floor.
    abbrev IsAbove : Option ℕ → Done → List Done → List (Option ℕ) → Type 0
    IsAbove key d older keys =
        sum_where p keys (floors_before latency w (steps_of older) keys)
        + (if p key then above d key older keys else 0)
        ≤ sum_where p keys (cycles_before d.at.issue older)

    so_far_same : (key : Option ℕ) (d e : Done) (older : List Done) (keys : List (Option ℕ))
        → AreTimed config (d ∷ e ∷ older)
        → IsAbove key e older keys → IsAbove key d (e ∷ older) (key ∷ keys)
    so_far_same key d e older keys timed before =
        let here = within key e older keys timed.1 in
        let next = next_within key d e older keys timed in
        let b = begin_before key e older keys timed.1 in
        let pos = b.0 in
        let early = b.1 in
        let order : e.at.issue ≤ d.at.issue = issue_from config (e ∷ older) d.step d.at.issue timed.0.issue.0 in
        let up = low_next latency w e.step (stretch_of key (steps_of older) keys) in
        let from = begin_same key d e older keys in
        let f = low_same latency w key d e older keys in
        elim (cases_Bool (p key)) [
          | inl y ↦ rw y (omega (arith, rw y at before, here, next, pos, early, order, up, from, f))
          | inr n ↦ rw n (omega (arith, rw n at before))
        ]

    so_far_other : (key k : Option ℕ) (d e : Done) (older : List Done) (keys : List (Option ℕ))
        → AreTimed config (d ∷ e ∷ older)
        → is_same k key ≡ false → IsAbove k e older keys → IsAbove key d (e ∷ older) (k ∷ keys)
    so_far_other key k d e older keys timed other before =
        let here = within k e older keys timed.1 in
        let next = next_within k d e older keys timed in
        let b = begin_before k e older keys timed.1 in
        let pos = b.0 in
        let early = b.1 in
        let order : e.at.issue ≤ d.at.issue = issue_from config (e ∷ older) d.step d.at.issue timed.0.issue.0 in
        let up = low_next latency w e.step (stretch_of k (steps_of older) keys) in
        let from = begin_other key k d e older keys other in
        let f = low_other latency w key k d e older keys other in
        elim (cases_Bool (p k)) [
          | inl y ↦ elim (cases_Bool (p key)) [
            | inl z ↦ rw (y, z) (omega (arith, rw y at before, here, next, pos, early, order, up, from, f))
            | inr z ↦ rw (y, z) (omega (arith, rw y at before, here, next, pos, early, order, up))
          ]
          | inr y ↦ elim (cases_Bool (p key)) [
            | inl z ↦ rw (y, z) (omega (arith, rw y at before, from, f))
            | inr z ↦ rw (y, z) (omega (arith, rw y at before))
          ]
        ]

    so_far : (key : Option ℕ) (d : Done) (older : List Done) (keys : List (Option ℕ)) → AreTimed config (d ∷ older)
        → IsAbove key d older keys
    so_far key d [] keys timed =
        let f = low_first latency w d.step in
        let none = sum_none p keys in
        elim (cases_Bool (p key)) [
          | inl e ↦ rw e (omega (arith, f, none))
          | inr e ↦ rw e (omega (arith, none))
        ]
    so_far key d (e ∷ older) [] timed =
        let f = low_first latency w d.step in
        elim (cases_Bool (p key)) [
          | inl y ↦ rw y (omega (arith, f))
          | inr n ↦ rw n (omega arith)
        ]
    so_far key d (e ∷ older) (k ∷ keys) timed =
        let before = so_far k e older keys timed.1 in
        elim (cases_Bool (is_same k key)) [
          | inl same ↦
              subst (λ (x : Option ℕ). IsAbove x d (e ∷ older) (k ∷ keys)) (same_is k key same)
              (so_far_same k d e older keys timed before)
          | inr other ↦ so_far_other key k d e older keys timed other before
        ]

    all_steps : (h : List Done) (keys : List (Option ℕ)) → AreTimed config h
        → sum_where p keys (floor_cycles latency w (steps_of h) keys) ≤ sum_where p keys (own_cycles h)
    all_steps [] keys timed = omega (arith, sum_none p keys)
    all_steps (d ∷ older) [] timed = omega arith
    all_steps (d ∷ older) (key ∷ keys) timed =
        let before = so_far key d older keys timed in
        let here = within key d older keys timed in
        let end = end_within key d older keys timed in
        let b = begin_before key d older keys timed in
        let pos = b.0 in
        let early = b.1 in
        let ends : d.at.issue ≤ greatest_end (d ∷ older) = first_ends config d [] older timed in
        elim (cases_Bool (p key)) [
          | inl y ↦ rw y (omega (arith, rw y at before, here, end, pos, early, ends))
          | inr n ↦ rw n (omega (arith, rw n at before))
        ]

pub floors_are_bounds : FloorsAreBounds
floors_are_bounds config latency w h keys p timed narrow slow = all_steps config latency w narrow slow p h keys timed

-- the cycles of all steps

before_add_up : (config : Configuration) (next : ℕ) (d : Done) (h : List Done) → AreTimed config (d ∷ h)
    → d.at.issue ≤ next → sum (cycles_before next (d ∷ h)) + (oldest d h).at.issue ≡ next
before_add_up config next d [] timed l = rw sum_by-cons (omega arith)
before_add_up config next d (e ∷ h) timed l =
    let order : e.at.issue ≤ d.at.issue = issue_from config (e ∷ h) d.step d.at.issue timed.0.issue.0 in
    let rest = before_add_up config d.at.issue e h timed.1 order in
    rw sum_by-cons (omega (arith, rest))

pub cycles_within : (config : Configuration) (h : List Done) → AreTimed config h → sum (own_cycles h) ≤ greatest_end h
cycles_within config [] timed = omega arith
cycles_within config (d ∷ h) timed =
    let ends : d.at.issue ≤ greatest_end (d ∷ h) = first_ends config d [] h timed in
    let all = before_add_up config (greatest_end (d ∷ h) + 1) d h timed (omega (arith, ends)) in
    let pos = oldest_pos config d h timed in
    omega (arith, all, pos)
  where
    oldest_pos : (config : Configuration) (d : Done) (h : List Done) → AreTimed config (d ∷ h)
        → 0 < (oldest d h).at.issue
    oldest_pos config d [] timed = issue_pos config [] d timed
    oldest_pos config d (e ∷ h) timed = oldest_pos config e h timed.1

-- a run's first step issues in the first cycle

station_left : (config : Configuration) (pool : Option PoolId) → IsWithinLimits config
    → has_station config [] pool 1 ≡ true
station_left config None good = refl
station_left config (Some pool) good = lt-ltb 0 (stations_of config pool) (stations_low config pool good)

can_first : (config : Configuration) (s : Step) → IsWithinLimits config → can_issue config [] s 1 ≡ true
can_first config s good =
    and_from _ _ (and_from _ _ (and_from _ _ refl (and_from _ _ refl
    (lt-ltb 0 config.width (width_low config good)))) refl) (station_left config (step_pool s) good)

oldest_issues : (config : Configuration) (d : Done) (h : List Done) → IsWithinLimits config → AreTimed config (d ∷ h)
    → (oldest d h).at.issue ≡ 1
oldest_issues config d [] good timed = elim (cases_lt 1 d.at.issue) [
  | inl late ↦
      let no : can_issue config [] d.step 1 ≡ false = timed.0.issue.1 1 late in
      let yes = can_first config d.step good in
      absurd (cc)
  | inr early ↦ let pos = issue_pos config [] d timed in omega (arith, early, pos)
]
oldest_issues config d (e ∷ h) good timed = oldest_issues config e h good timed.1

pub cycles_add_up : CyclesAddUp
cycles_add_up config [] good timed = refl
cycles_add_up config (d ∷ h) good timed =
    let ends : d.at.issue ≤ greatest_end (d ∷ h) = first_ends config d [] h timed in
    let all = before_add_up config (greatest_end (d ∷ h) + 1) d h timed (omega (arith, ends)) in
    let one = oldest_issues config d h good timed in
    omega (arith, all, one)

-- all floor cycles, on the machine that reaches the run's floor

pub sum_all : (keys : List (Option ℕ)) (numbers : List ℕ) → length numbers ≤ length keys
    → sum_where (λ k. true) keys numbers ≡ sum numbers
sum_all [] [] l = refl
sum_all [] (n ∷ numbers) l = absurd (omega arith)
sum_all (k ∷ keys) [] l = refl
sum_all (k ∷ keys) (n ∷ numbers) l = rw sum_by-cons (ap (λ x. n + x) (sum_all keys numbers (omega arith)))

-- keys beyond the steps, and steps beyond the keys, have no floor cycles
pub sum_keyed : (keys : List (Option ℕ)) (numbers : List ℕ) → sum_where (λ k. true) keys numbers ≤ sum numbers
sum_keyed [] numbers = omega arith
sum_keyed (k ∷ keys) [] = omega arith
sum_keyed (k ∷ keys) (n ∷ numbers) =
    let rest = sum_keyed keys numbers in rw sum_by-cons (omega (arith, rest))

length_before : (latency : UnitId → ℕ) (w : ℕ) (steps : List Step) (keys : List (Option ℕ))
    → length (floors_before latency w steps keys) ≤ length keys
length_before latency w [] keys = omega arith
length_before latency w (s ∷ steps) [] = omega arith
length_before latency w (s ∷ steps) (k ∷ keys) =
    let rest = length_before latency w steps keys in omega (arith, rest)

pub length_cycles : (latency : UnitId → ℕ) (w : ℕ) (steps : List Step) (keys : List (Option ℕ))
    → length (floor_cycles latency w steps keys) ≤ length keys
length_cycles latency w [] keys = omega arith
length_cycles latency w (s ∷ steps) [] = omega arith
length_cycles latency w (s ∷ steps) (k ∷ keys) =
    let rest = length_before latency w steps keys in omega (arith, rest)

pub floor_cycles_add_up : FloorCyclesAddUp
floor_cycles_add_up latency w steps keys some =
    let n = length steps in
    let machine = unlimited latency w (length steps) in
    let r = floors_reached latency w (length steps) steps some (omega arith) in
    let same : steps_of r.0 ≡ steps =
    sym (steps_without r.0) ∙ ap steps_of r.2 ∙ steps_of_floors latency w steps in
    let bound = rw same at (floors_are_bounds (unlimited latency w (length steps)) latency w r.0 keys (λ k. true) r.1
    (omega arith) (latency_same latency w (length steps))) in
    let floor = sum_all keys (floor_cycles latency w steps keys) (length_cycles latency w steps keys) in
    let own = sum_keyed keys (own_cycles r.0) in
    let all = cycles_within (unlimited latency w (length steps)) r.0 r.1 in
    let total = r.3 in
    omega (arith, bound, floor, own, all, total)
