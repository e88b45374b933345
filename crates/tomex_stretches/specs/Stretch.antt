-- A stretch of a run: some steps that follow one another, at any time of the run. Its floor is that of a run that
-- begins with it. Steps are in a history's order, the youngest first.
use Rattle.std.specs.Prelude.{ℕ, ◌+◌, ◌-◌, ◌≤◌, false, IsTrue, List, [], ◌∷◌, ◌++◌, Option, Some, None, map}
use Rattle.tomex_rvdec.specs.declared.pool.UnitId.{UnitId}
use Rattle.tomex_rvexec.specs.declared.step.Step.{Step}
use Rattle.tomex_timing.specs.declared.times.Done.{Done}
use Rattle.tomex_timing.specs.declared.times.Times.{Times}
use Rattle.tomex_timing.specs.History.{cycle_of, greatest_end, last_issue}
use Rattle.tomex_floor.specs.Floor.{floors_of}

abbrev pub steps_of : List Done → List Step
steps_of h = map (λ d. d.step) h

-- a stretch's first step, which is its oldest
abbrev pub oldest : {A : Type 0} → A → List A → A
oldest d [] = d
oldest d (e ∷ older) = oldest e older

-- its issue; 0 without a step
abbrev pub issue_of_oldest : List Done → ℕ
issue_of_oldest [] = 0
issue_of_oldest (d ∷ older) = (oldest d older).at.issue

-- each time of the first is no later than the second's, from which n cycles are taken
pub record IsNoLaterBy (n : ℕ) (a b : Times) : Type 0 where
  pub issue : a.issue ≤ b.issue - n
  pub address : cycle_of a.address ≤ cycle_of b.address - n
  pub start : a.start ≤ b.start - n
  pub finish : a.finish ≤ b.finish - n
  pub end : a.end ≤ b.end - n

-- the same step by step, for two histories of one length
abbrev pub AreNoLaterBy : ℕ → List Done → List Done → Type 0
AreNoLaterBy n [] [] = Unit {0}
AreNoLaterBy n [] (b ∷ h) = IsTrue false
AreNoLaterBy n (a ∷ f) [] = IsTrue false
AreNoLaterBy n (a ∷ f) (b ∷ h) = IsNoLaterBy n a.at b.at × AreNoLaterBy n f h

-- The floor of a stretch, given its steps and the one after it: on their floor, the last issue less the first, which
-- is 1.
abbrev pub stretch_floor : (UnitId → ℕ) → ℕ → List Step → ℕ
stretch_floor latency w steps = last_issue (floors_of latency w steps) - 1

-- A run cut in stretches, the youngest first: after each comes the first step of the next younger one.

abbrev pub joined : {A : Type 0} → List (List A) → List A
joined [] = []
joined (h ∷ older) = h ++ joined older

-- the floor of a stretch before this step; of the run's last stretch its floor's total
abbrev pub floor_before : (UnitId → ℕ) → ℕ → Option Step → List Step → ℕ
floor_before latency w None steps = greatest_end (floors_of latency w steps)
floor_before latency w (Some s) steps = stretch_floor latency w (s ∷ steps)

abbrev pub sum_of_floors : (UnitId → ℕ) → ℕ → Option Step → List (List Step) → ℕ
sum_of_floors latency w next [] = 0
sum_of_floors latency w next ([] ∷ older) = sum_of_floors latency w next older
sum_of_floors latency w next ((s ∷ steps) ∷ older) =
    floor_before latency w next (s ∷ steps) + sum_of_floors latency w (Some (oldest s steps)) older
