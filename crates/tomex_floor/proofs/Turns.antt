-- The floors of a run grow by one step at a time, and none of their times is late.
use Rattle.std.proofs.Common.{ℕ, ◌+◌, ◌*◌, ◌-◌, ◌≤◌, ◌≡◌, Bool, true, false, arith, refl, ap, inl, inr, List, []}
use Rattle.std.proofs.Common.{◌∷◌, ◌++◌}
use Rattle.std.proofs.Common.{◌<◌, max, sym, subst, Option, Some, None, zero, suc, length, reverse}
use Rattle.std.specs.Prelude.{IfSome, if◌then◌else◌, is_some, slice_index, slice_index_or, slice_set}
use Rattle.std.proofs.lemmas.Bool.{cases_Bool, cases_order}
use Rattle.std.proofs.lemmas.Bool.Decides.{nat_tests}
use Rattle.std.proofs.lemmas.Grind.{common_steps}
use Rattle.std.proofs.lemmas.List.{get_or-set_other, get_or-set_same, reverse-append, length-reverse}
use Rattle.tomex_rvdec.specs.declared.pool.UnitId.{UnitId}
use Rattle.tomex_rvexec.specs.Steps.{step_unit, step_dest, j_of, k_of, is_branch, is_number}
use Rattle.tomex_rvexec.specs.declared.step.Step.{Step}
use Rattle.tomex_config.specs.Configuration.{Configuration, IsWithinLimits}
use Rattle.tomex_timing.specs.declared.times.Done.{Done}
use Rattle.tomex_timing.specs.declared.times.Times.{Times}
use Rattle.tomex_timing.specs.History.{is_memory, cycle_of, writer_end}
use Rattle.tomex_timing.specs.Recurrence.{conflicts}
use Rattle.tomex_timing.specs.Recent.{facts_of, written_by}
use Rattle.tomex_timing.proofs.Limits.{latency_high}
use Rattle.tomex_timing.proofs.AfterEnd.{AllBy, IsDoneBy, last_address_by, source_end_by, writer_end_by}
use Rattle.tomex_floor.specs.declared.latest.Latest.{Latest}
use Rattle.tomex_floor.specs.Floor.{floor_address, floor_end, floor_from, floor_issue, floor_start, floor_times}
use Rattle.tomex_floor.specs.Floor.{floors_of}
use Rattle.tomex_floor.specs.Floor.{issue_back, last_finish}
use Rattle.tomex_config.specs.Configuration.{latency_of}
use Rattle.tomex_floor.specs.Kept.{IsLatest, IsLatestBy, latest_after}

pub floors_more : (latency : UnitId → ℕ) (w : ℕ) (xs : List Step) (x : Step)
    → floors_of latency w (reverse (xs ++ (x ∷ [])))
    ≡ record { step = x; at = floor_times latency w (floors_of latency w (reverse xs)) x }
    ∷ floors_of latency w (reverse xs)
floors_more latency w xs x = ap (floors_of latency w) (reverse-append xs (x ∷ []))

-- no time is past a bound

pub finish_by : (p : Step → Bool) (g : ℕ) (h : List Done) → AllBy g h → last_finish p h ≤ g
finish_by p g [] by = omega arith
finish_by p g (d ∷ h) by =
    let rest = finish_by p g h by.1 in
    let f = by.0.finish in
    elim (cases_Bool (p d.step)) [
      | inl e ↦ rw e (omega arith)
      | inr e ↦ rw e (omega arith)
    ]

back_by : (g : ℕ) (h : List Done) (n : ℕ) → AllBy g h → issue_back h n ≤ g
back_by g [] n by = omega arith
back_by g (d ∷ h) zero by = by.0.issue
back_by g (d ∷ h) (suc n) by = back_by g h n by.1

later_by : (f g : ℕ) (h : List Done) → f ≤ g → AllBy f h → AllBy g h
later_by f g [] l by = tt
later_by f g (d ∷ h) l by =
    let now = by.0 in (
      record {
        issue = omega (arith, now.issue);
        address = omega (arith, now.address);
        start = omega (arith, now.start);
        finish = omega (arith, now.finish);
        end = omega (arith, now.end);
      },
      later_by f g h l by.1,
    )

address_by : (g : ℕ) (h : List Done) (s : Step) (issue : ℕ) → AllBy g h → issue ≤ g + 1
    → cycle_of (floor_address h s issue) ≤ g + 2
address_by g h s issue by l =
    let j = source_end_by g h (j_of s) by in
    let a = last_address_by g h by in
    elim (cases_Bool (is_memory s)) [
      | inl e ↦ rw e (omega arith)
      | inr e ↦ rw e (omega arith)
    ]

end_by : (s : Step) (finish g : ℕ) → finish ≤ g → floor_end s finish ≤ g + 1
end_by s finish g l = elim (cases_Bool (is_some (step_dest s))) [
  | inl e ↦ rw e (omega arith)
  | inr e ↦ rw e (omega arith)
]

from_by : (latency : UnitId → ℕ) (g : ℕ) (h : List Done) (s : Step) (issue : ℕ) (address : Option ℕ)
    (unit : Option UnitId) → AllBy g h → ((u : UnitId) → latency u ≤ 64) → issue ≤ g + 1 → cycle_of address ≤ g + 2
    → IsDoneBy (g + 67) (record { step = s; at = floor_from latency h s issue address unit })
from_by latency g h s issue address None by short i a = record {
  issue = omega arith;
  address = omega arith;
  start = omega arith;
  finish = omega arith;
  end = omega arith;
}
from_by latency g h s issue address (Some u) by short i a =
    let l = short u in
    let j = source_end_by g h (j_of s) by in
    let k = source_end_by g h (k_of s) by in
    let c = finish_by (λ x. conflicts x s) g h by in
    let st : floor_start h s issue (cycle_of address) ≤ g + 3 = omega arith in
    let f : floor_start h s issue (cycle_of address) + latency u - 1 ≤ g + 66 = omega (arith, st, l) in
    let e = end_by s (floor_start h s issue (cycle_of address) + latency u - 1) (g + 66) f in
    record {
      issue = omega arith;
      address = omega arith;
      start = omega (arith, st);
      finish = omega (arith, f);
      end = omega (arith, e);
    }

floors_by : (latency : UnitId → ℕ) (w : ℕ) (ys : List Step) → ((u : UnitId) → latency u ≤ 64)
    → AllBy (67 * length ys) (floors_of latency w ys)
floors_by latency w [] short = tt
floors_by latency w (y ∷ ys) short =
    let h = floors_of latency w ys in
    let g = 67 * length ys in
    let by : AllBy (67 * length ys) (floors_of latency w ys) = floors_by latency w ys short in
    let b = finish_by is_branch (67 * length ys) (floors_of latency w ys) by in
    let n = back_by (67 * length ys) (floors_of latency w ys) (w - 1) by in
    let i : floor_issue w (floors_of latency w ys) ≤ 67 * length ys + 1 = omega arith in
    let a = address_by (67 * length ys) (floors_of latency w ys) y (floor_issue w (floors_of latency w ys)) by i in
    let now = from_by latency (67 * length ys) (floors_of latency w ys) y (floor_issue w (floors_of latency w ys))
    (floor_address (floors_of latency w ys) y (floor_issue w (floors_of latency w ys))) (step_unit y) by short i a in (
      record {
        issue = omega (arith, now.issue);
        address = omega (arith, now.address);
        start = omega (arith, now.start);
        finish = omega (arith, now.finish);
        end = omega (arith, now.end);
      },
      later_by (67 * length ys) (67 * length (y ∷ ys)) (floors_of latency w ys) (omega arith) by,
    )

-- the same for a run's steps so far
pub run_by : (config : Configuration) (w : ℕ) (xs : List Step) (g : ℕ) → IsWithinLimits config → 67 * length xs ≤ g
    → AllBy g (floors_of (latency_of config) w (reverse xs))
run_by config w xs g good l =
    later_by (67 * length (reverse xs)) g (floors_of (latency_of config) w (reverse xs))
    (rw (length-reverse xs) l) (floors_by (latency_of config) w (reverse xs) (λ u. latency_high config u good))

pub latest_by : (g : ℕ) (h : List Done) (latest : Latest) → AllBy g h → IsLatest h latest → IsLatestBy g latest
latest_by g h latest by is = record {
  ends = λ r l. rw (is.ends r l) (writer_end_by g h r by);
  issues = λ n l. rw (is.issues n l) (back_by g h n by);
  branch = rw is.branch (finish_by is_branch g h by);
  address = rw is.address (last_address_by g h by);
}

-- the latest of each kind of cycle after one more step

ends_more : (dest : Option ℕ) (end : ℕ) (ends : List ℕ) (h : List Done) (r : ℕ) → length ends ≡ 32
    → IfSome dest (λ n. n < 32) → ((r : ℕ) → r < 32 → slice_index ends r ≡ writer_end h r) → r < 32
    → slice_index (written_by dest end ends) r ≡ (if is_number dest r then end else writer_end h r)
ends_more None end ends h r count low are l = are r l
ends_more (Some n) end ends h r count low are l = let before = are r l in grind (arith, nat_tests, common_steps)

ends_count : (dest : Option ℕ) (end : ℕ) (ends : List ℕ) → length ends ≡ 32 → length (written_by dest end ends) ≡ 32
ends_count None end ends count = count
ends_count (Some n) end ends count = grind (arith, common_steps)

issues_more : (h : List Done) (d : Done) (issues : List ℕ) (n : ℕ)
    → ((n : ℕ) → n < 4 → slice_index issues n ≡ issue_back h n) → n < 4
    → slice_index (d.at.issue ∷ slice_index issues 0 ∷ slice_index issues 1 ∷ slice_index issues 2 ∷ []) n
    ≡ issue_back (d ∷ h) n
issues_more h d issues zero are l = refl
issues_more h d issues (suc zero) are l = are 0 (omega arith)
issues_more h d issues (suc (suc zero)) are l = are 1 (omega arith)
issues_more h d issues (suc (suc (suc zero))) are l = are 2 (omega arith)
issues_more h d issues (suc (suc (suc (suc n)))) are l = absurd (omega arith)

branch_more : (b : Bool) (f m : ℕ) → (if b then max f m else m) ≡ max (if b then f else 0) m
branch_more true f m = refl
branch_more false f m = omega arith

pub latest_more : (h : List Done) (s : Step) (at : Times) (latest : Latest) → IfSome (step_dest s) (λ r. r < 32)
    → IsLatest h latest → IsLatest (record { step = s; at = at } ∷ h) (latest_after (facts_of s) at latest)
latest_more h s at latest low is = record {
  count = ends_count (step_dest s) at.end latest.ends is.count;
  ends = λ r l. ends_more (step_dest s) at.end latest.ends h r is.count low is.ends l;
  issued = refl;
  issues = λ n l. issues_more h (record { step = s; at = at }) latest.issues n is.issues l;
  branch = rw is.branch (branch_more (is_branch s) at.finish (last_finish is_branch h));
  address = rw is.address refl;
  end = rw is.end refl;
}

-- each element of a list has a property up to a place after the element there is set
pub set_up_to : {X : Type 0} (P : ℕ → X → Type 0) (xs : List X) (n : ℕ) (x : X) → n < length xs → P n x
    → ((i : ℕ) (d : X) → i < n → P i (slice_index_or xs i d)) → (i : ℕ) (d : X) → i < n + 1
    → P i (slice_index_or (slice_set xs n x) i d)
set_up_to P xs n x within here before i d l = elim (cases_order i n) [
  | inl e ↦ subst (λ (y : ℕ). P y (slice_index_or (slice_set xs n x) y d)) (sym e) (rw
      (get_or-set_same xs n x d within) here)
  | inr (inl k) ↦ rw (get_or-set_other xs n i x d (λ (e : i ≡ n). absurd (omega arith))) (before i d k)
  | inr (inr k) ↦ absurd (omega arith)
]
