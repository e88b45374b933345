-- The floors of all stretches: each is at most what its stretch takes, and what they take adds up.
use Rattle.std.proofs.Common.{ℕ, ◌+◌, ◌-◌, ◌≤◌, ◌≡◌, ◌∙◌, arith, refl, sym, ap}
use Rattle.std.proofs.Common.{inl, inr, List, [], ◌∷◌, ◌++◌, Option, Some, None, map, length}
use Rattle.std.specs.Prelude.{is_some, MatchOption}
use Rattle.std.proofs.lemmas.Bool.{cases_Bool}
use Rattle.tomex_rvdec.specs.declared.pool.UnitId.{UnitId}
use Rattle.tomex_rvdec.specs.declared.pool.UnitId.TheVariants as units
use Rattle.tomex_rvexec.specs.Steps.{step_unit, step_dest}
use Rattle.tomex_rvexec.specs.declared.step.Step.{Step}
use Rattle.tomex_config.specs.Configuration.{Configuration, option_of}
use Rattle.tomex_timing.specs.declared.times.Done.{Done}
use Rattle.tomex_timing.specs.declared.times.Times.{Times}
use Rattle.tomex_timing.specs.History.{cycle_of, greatest_end}
use Rattle.tomex_timing.specs.Recurrence.{IsLeast, IsTimed, AreTimed, EndsAfter, can_start}
use Rattle.tomex_floor.specs.Floor.{all_without_station, floor_end, floors_of, unlimited}
use Rattle.tomex_floor.proofs.Above.{start_above}
use Rattle.tomex_floor.proofs.Reached.{floors_reached}
use Rattle.tomex_stretches.specs.Stretch.{joined, oldest, steps_of, sum_of_floors}
use Rattle.tomex_stretches.specs.Laws.{FloorsAddUp, SumIsBound}
use Rattle.tomex_stretches.proofs.From.{end_above, issue_pos, last_stretch_is_bound, later_from, stretch_is_bound}

-- the end of the run, or the last cycle before the next step
abbrev pub limit : Option Done → List Done → ℕ
limit None h = greatest_end h
limit (Some d) h = d.at.issue - 1

abbrev pub and_next : Option Done → List Done → List Done
and_next None h = h
and_next (Some d) h = d ∷ h

abbrev pub step_after : Option Done → Option Step
step_after None = None
step_after (Some d) = Some d.step

oldest_step : (d : Done) (h : List Done) → oldest d.step (steps_of h) ≡ (oldest d h).step
oldest_step d [] = refl
oldest_step d (e ∷ h) = oldest_step e h

first_timed : (config : Configuration) (d : Done) (h older : List Done) → AreTimed config ((d ∷ h) ++ older)
    → AreTimed config (oldest d h ∷ older)
first_timed config d [] older timed = timed
first_timed config d (e ∷ h) older timed = first_timed config e h older timed.1

-- a step ends at its issue or later
end_after : (config : Configuration) (older : List Done) (s : Step) (at : Times) → IsTimed config older s at
    → at.issue ≤ at.end
end_after config older s at is =
    by_cases (step_unit s) is.start is.finish is.end
  where
    by_cases : (unit : Option UnitId)
        → MatchOption unit (at.start ≡ at.issue)
        (λ u. IsLeast (can_start config older s u at.issue (cycle_of at.address)) at.start)
        → MatchOption unit (at.finish ≡ at.issue) (λ u. at.finish ≡ at.start + (option_of config u).latency - 1)
        → MatchOption unit (at.end ≡ at.issue) (λ u. EndsAfter config older s at.finish at.end)
        → at.issue ≤ at.end
    by_cases None start finish end = omega (arith, end)
    by_cases (Some u) start finish end =
        let low = start_above config older s u at.issue (cycle_of at.address) at.start start.0 in
        let e = end_above config older s at.finish at.end end in
        let f : at.finish ≤ floor_end s at.finish = ends_later s at.finish in
        omega (arith, low, finish, e, f)
      where
        ends_later : (s : Step) (t : ℕ) → t ≤ floor_end s t
        ends_later s t = elim (cases_Bool (is_some (step_dest s))) [
          | inl y ↦ rw y (omega arith)
          | inr n ↦ rw n (omega arith)
        ]

pub first_ends : (config : Configuration) (d : Done) (h older : List Done) → AreTimed config ((d ∷ h) ++ older)
    → (oldest d h).at.issue ≤ greatest_end ((d ∷ h) ++ older)
first_ends config d [] older timed =
    let e = end_after config older d.step d.at timed.0 in
    omega (arith, e)
first_ends config d (e ∷ h) older timed = let rest = first_ends config e h older timed.1 in omega (arith, rest)

sum_within : (config : Configuration) (latency : UnitId → ℕ) (w : ℕ) (next : Option Done)
    (stretches : List (List Done)) → AreTimed config (and_next next (joined stretches)) → config.width ≤ w
    → ((unit : UnitId) → latency unit ≤ (option_of config unit).latency)
    → sum_of_floors latency w (step_after next) (map steps_of stretches) ≤ limit next (joined stretches)
sum_within config latency w next [] timed narrow slow = omega arith
sum_within config latency w next ([] ∷ older) timed narrow slow =
    sum_within config latency w next older timed narrow slow
sum_within config latency w None ((d ∷ h) ∷ older) timed narrow slow =
    let rest = sum_within config latency w (Some (oldest d h)) older
    (first_timed config d h (joined older) timed) narrow slow in
    let own = last_stretch_is_bound config latency w (d ∷ h) (joined older) timed narrow (λ u. inl (slow u)) in
    let pos = (first_timed config d h (joined older) timed) in
    let p = issue_pos config (joined older) (oldest d h) pos in
    let e = first_ends config d h (joined older) timed in
    rw (oldest_step d h) (omega (arith, rest, own, p, e))
sum_within config latency w (Some b) ((d ∷ h) ∷ older) timed narrow slow =
    let first = first_timed config d h (joined older) timed.1 in
    let rest = sum_within config latency w (Some (oldest d h)) older first narrow slow in
    let own = stretch_is_bound config latency w (b ∷ d ∷ h) (joined older) timed narrow (λ u. inl (slow u)) in
    let p = issue_pos config (joined older) (oldest d h) first in
    let later = later_from config b (d ∷ h) (joined older) timed in
    let l = later.0 in
    rw (oldest_step d h) (omega (arith, rest, own, p, l))

pub sum_is_bound : SumIsBound
sum_is_bound config latency w stretches timed narrow slow =
    sum_within config latency w None stretches timed narrow slow

-- On the machine that reaches the run's floor.

pub steps_without : (h : List Done) → steps_of (all_without_station h) ≡ steps_of h
steps_without [] = refl
steps_without (d ∷ h) = ap (λ x. d.step ∷ x) (steps_without h)

pub steps_of_floors : (latency : UnitId → ℕ) (w : ℕ) (steps : List Step) → steps_of (floors_of latency w steps) ≡ steps
steps_of_floors latency w [] = refl
steps_of_floors latency w (s ∷ steps) = ap (λ x. s ∷ x) (steps_of_floors latency w steps)

pub latency_same : (latency : UnitId → ℕ) (w n : ℕ) (unit : UnitId)
    → latency unit ≤ (option_of (unlimited latency w n) unit).latency
latency_same latency w n units.Alu = omega arith
latency_same latency w n units.Mul = omega arith
latency_same latency w n units.Div = omega arith
latency_same latency w n units.Mem = omega arith
latency_same latency w n units.Bru = omega arith

-- a history cut where its steps are cut
record IsCut (h : List Done) (xs ys : List Step) : Type 0 where
  newer : List Done
  older : List Done
  is : newer ++ older ≡ h
  first : steps_of newer ≡ xs
  second : steps_of older ≡ ys

cut : (h : List Done) (xs ys : List Step) → steps_of h ≡ xs ++ ys → IsCut h xs ys
cut h [] ys e = record { newer = []; older = h; is = refl; first = refl; second = e }
cut [] (x ∷ xs) ys e = absurd (cc)
cut (d ∷ h) (x ∷ xs) ys e =
    let one : d.step ≡ x = cc in
    let more : steps_of h ≡ xs ++ ys = cc in
    let rest = cut h xs ys more in
    record {
      newer = d ∷ rest.newer;
      older = rest.older;
      is = ap (λ z. d ∷ z) rest.is;
      first = ap (λ z. z ∷ steps_of rest.newer) one ∙ ap (λ z. x ∷ z) rest.first;
      second = rest.second;
    }

record AreCuts (h : List Done) (stretches : List (List Step)) : Type 0 where
  parts : List (List Done)
  are : joined parts ≡ h
  steps : map steps_of parts ≡ stretches

cuts : (h : List Done) (stretches : List (List Step)) → steps_of h ≡ joined stretches → AreCuts h stretches
cuts [] [] e = record { parts = []; are = refl; steps = refl }
cuts (d ∷ h) [] e = absurd (cc)
cuts h (xs ∷ older) e =
    let c = cut h xs (joined older) e in
    let rest = cuts c.older older c.second in
    record {
      parts = c.newer ∷ rest.parts;
      are = ap (λ z. c.newer ++ z) rest.are ∙ c.is;
      steps = ap (λ z. z ∷ map steps_of rest.parts) c.first ∙ ap (λ z. xs ∷ z) rest.steps;
    }

pub floors_add_up : FloorsAddUp
floors_add_up latency w stretches some =
    let r = floors_reached latency w (length (joined stretches)) (joined stretches) some (omega arith) in
    let same : steps_of r.0 ≡ joined stretches =
    sym (steps_without r.0) ∙ ap steps_of r.2 ∙ steps_of_floors latency w (joined stretches) in
    let c = cuts r.0 stretches same in
    let timed : AreTimed (unlimited latency w (length (joined stretches))) (joined c.parts) = rw c.are r.1 in
    let sum = sum_is_bound (unlimited latency w (length (joined stretches))) latency w c.parts timed (omega arith)
    (latency_same latency w (length (joined stretches))) in
    let total : greatest_end (joined c.parts) ≡ greatest_end (floors_of latency w (joined stretches)) =
    ap greatest_end c.are ∙ r.3 in
    let floors : sum_of_floors latency w None (map steps_of c.parts) ≡ sum_of_floors latency w None stretches =
    ap (sum_of_floors latency w None) c.steps in
    omega (arith, sum, total, floors)
