-- A floor of longer latencies or a smaller width is above the equations of another, so it is no earlier.
use Rattle.std.proofs.Common.{ℕ, zero, suc, ◌-◌, ◌≤◌, ◌≡◌, arith, refl, ap}
use Rattle.std.proofs.Common.{List, [], ◌∷◌, Option, Some, None}
use Rattle.tomex_rvdec.specs.declared.pool.UnitId.{UnitId}
use Rattle.tomex_rvexec.specs.Steps.{step_unit, is_branch}
use Rattle.tomex_rvexec.specs.declared.step.Step.{Step}
use Rattle.tomex_timing.specs.declared.times.Done.{Done}
use Rattle.tomex_floor.specs.Floor.{floor_address, floor_from, floor_issue}
use Rattle.tomex_floor.specs.Floor.{floor_times, floors_of, issue_back, last_finish}
use Rattle.tomex_floor.specs.Laws.{FloorsFall}
use Rattle.tomex_floor.proofs.Above.{AreAbove, AreInOrder, IsAbove, above_floor, back_fall, back_low, steps_of}

pub issue_next : (w : ℕ) (d : Done) (h : List Done) → AreInOrder (d ∷ h) → d.at.issue ≡ floor_issue w h
    → d.at.issue ≤ floor_issue w (d ∷ h)
issue_next w d h o e =
    let b : last_finish is_branch h ≤ last_finish is_branch (d ∷ h) = omega arith in
    let k : issue_back h (w - 1) ≤ issue_back (d ∷ h) (w - 1) = more (w - 1) in
    omega (arith, b, k, e)
  where
    more : (n : ℕ) → issue_back h n ≤ issue_back (d ∷ h) n
    more zero = let l = back_low h 0 o.1 in let m = o.0 in omega (arith, l, m)
    more (suc n) = back_fall h n (suc n) o.1 (omega arith)

pub from_issue : (latency : UnitId → ℕ) (older : List Done) (s : Step) (issue : ℕ) (address : Option ℕ)
    (unit : Option UnitId) → (floor_from latency older s issue address unit).issue ≡ issue
from_issue latency older s issue address None = refl
from_issue latency older s issue address (Some u) = refl

floors_in_order : (latency : UnitId → ℕ) (w : ℕ) (steps : List Step) → AreInOrder (floors_of latency w steps)
floors_in_order latency w [] = tt
floors_in_order latency w (s ∷ []) = (omega arith, tt)
floors_in_order latency w (s ∷ (x ∷ xs)) =
    let rest = floors_in_order latency w (x ∷ xs) in
    let f = floors_of latency w xs in
    let d : Done = record { step = x; at = floor_times latency w (floors_of latency w xs) x } in
    let e : d.at.issue ≡ floor_issue w (floors_of latency w xs) =
    from_issue latency (floors_of latency w xs) x _ _ (step_unit x) in
    let g = from_issue latency (floors_of latency w (x ∷ xs)) s (floor_issue w (floors_of latency w (x ∷ xs)))
    (floor_address (floors_of latency w (x ∷ xs)) s (floor_issue w (floors_of latency w (x ∷ xs)))) (step_unit s) in
    let n = issue_next w d (floors_of latency w xs) rest e in
    (omega (arith, n, g), rest)

-- the times of a floor, by their unit
floor_above : (latency slower : UnitId → ℕ) (w : ℕ) (older : List Done) (s : Step) (issue : ℕ) (unit : Option UnitId)
    → step_unit s ≡ unit → ((u : UnitId) → latency u ≤ slower u) → floor_issue w older ≤ issue
    → IsAbove latency w older s (floor_from slower older s issue (floor_address older s issue) unit)
floor_above latency slower w older s issue None e slow low = record {
  issue = low;
  address = omega arith;
  start = rw e (omega arith);
  finish = rw e (omega arith);
  end = rw e (omega arith);
}
floor_above latency slower w older s issue (Some u) e slow low =
    let l = slow u in
    record {
      issue = low;
      address = omega arith;
      start = rw e (omega arith);
      finish = rw e (omega (arith, l));
      end = rw e (omega arith);
    }

floors_above : (latency slower : UnitId → ℕ) (w narrower : ℕ) (steps : List Step)
    → ((u : UnitId) → latency u ≤ slower u) → narrower ≤ w → AreAbove latency w (floors_of slower narrower steps)
floors_above latency slower w narrower [] slow narrow = tt
floors_above latency slower w narrower (s ∷ xs) slow narrow =
    let k = back_fall (floors_of slower narrower xs) (narrower - 1) (w - 1) (floors_in_order slower narrower xs)
    (omega arith) in (
      floor_above latency slower w (floors_of slower narrower xs) s (floor_issue narrower
          (floors_of slower narrower xs))
          (step_unit s) refl slow (omega (arith, k)),
      floors_above latency slower w narrower xs slow narrow,
    )

steps_of-floors : (latency : UnitId → ℕ) (w : ℕ) (ys : List Step) → steps_of (floors_of latency w ys) ≡ ys
steps_of-floors latency w [] = refl
steps_of-floors latency w (y ∷ ys) = ap (λ zs. y ∷ zs) (steps_of-floors latency w ys)

pub floors_fall : FloorsFall
floors_fall latency slower w narrower steps slow narrow =
    let l = above_floor latency w (floors_of slower narrower steps)
    (floors_above latency slower w narrower steps slow narrow) in
    rw (steps_of-floors slower narrower steps) at l
