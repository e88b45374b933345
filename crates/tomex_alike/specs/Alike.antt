-- When two histories look alike to the next step: it sees the same of both, relative to the first cycle in which it may
-- issue. What is over by then counts as nothing: `a - b` is 0 if b is greater.
--
-- The idea is FastSim's, which remembers the states of its pipeline, and what followed each of them: E. Schnarr and
-- J. Larus, "Fast Out-Of-Order Processor Simulation Using Memoization", ASPLOS 1998. Here a state is what the
-- recurrence of tomex_timing reads of a history.
use Rattle.std.specs.Prelude.{ℕ, zero, suc, ◌+◌, ◌-◌, ◌<◌, ◌≤◌, ◌≡◌, ◌==◌, Bool, false, ◌&&◌, if◌then◌else◌}
use Rattle.std.specs.Prelude.{List, [], ◌∷◌, Option, Some, None, count_by, is_some, max}
use Rattle.tomex_rvdec.specs.declared.pool.PoolId.{PoolId}
use Rattle.tomex_rvdec.specs.declared.pool.UnitId.{UnitId}
use Rattle.tomex_rvexec.specs.Steps.{step_pool, step_unit, step_dest, j_of, k_of}
use Rattle.tomex_rvexec.specs.declared.step.Step.{Step}
use Rattle.tomex_config.specs.Configuration.{Configuration}
use Rattle.tomex_timing.specs.declared.times.Done.{Done}
use Rattle.tomex_timing.specs.declared.times.Times.{Times}
use Rattle.tomex_timing.specs.History.{is_of, is_memory, writer_end, last_address, greatest_end}
use Rattle.tomex_timing.specs.Issue.{first_after_branches, first_issue}
use Rattle.tomex_timing.specs.Recent.{register_of}
use Rattle.tomex_timing.specs.Recurrence.{conflicts}
use Rattle.tomex_timing.specs.Station.{is_free}

-- The cycles of a history.

-- the steps that issue in a cycle
abbrev pub issued_in : List Done → ℕ → ℕ
issued_in h t = count_by (λ d. d.at.issue == t) h

-- the operations of a kind that start in a cycle
abbrev pub starts_in : UnitId → List Done → ℕ → ℕ
starts_in unit h t = count_by (λ d. is_of unit (step_unit d.step) && d.at.start == t) h

-- the results that end in a cycle
abbrev pub results_in : List Done → ℕ → ℕ
results_in h t = count_by (λ d. is_some (step_dest d.step) && d.at.end == t) h

-- The accesses of a history, by their numbers: 0 is the youngest.

-- a value of the access with a number, and the given one if there is no such access
abbrev pub of_access : {A : Type 0} → (Done → A) → A → List Done → ℕ → A
of_access f none [] i = none
of_access f none (d ∷ older) zero = if is_memory d.step then f d else of_access f none older zero
of_access f none (d ∷ older) (suc i) =
    if is_memory d.step then of_access f none older i else of_access f none older (suc i)

-- a step conflicts with it
abbrev pub conflicts_with : List Done → Step → ℕ → Bool
conflicts_with h s i = of_access (λ d. conflicts d.step s) false h i

-- the first cycle in which a next access may start: its address comes after its issue and after the last address
abbrev pub first_access : Configuration → List Done → ℕ
first_access config h = max (first_issue config h) (last_address h) + 2

-- What the next step sees, relative to the first cycle in which it may issue.

-- the steps that have issued in it
abbrev pub issued_now : Configuration → List Done → ℕ
issued_now config h = issued_in h (first_issue config h)

-- how long the next step waits for the width
abbrev pub width_wait : Configuration → List Done → ℕ
width_wait config h = first_issue config h - first_after_branches h

-- the cycles from it on up to the greatest end
abbrev pub ahead : Configuration → List Done → ℕ
ahead config h = greatest_end h + 1 - first_issue config h

-- how long after it the last address is computed
abbrev pub address_ahead : Configuration → List Done → ℕ
address_ahead config h = last_address h - first_issue config h

-- how long after it the producer of a register ends
abbrev pub end_ahead : Configuration → List Done → ℕ → ℕ
end_ahead config h r = writer_end h r - first_issue config h

-- a station is free t cycles later
abbrev pub is_free_ahead : Configuration → PoolId → List Done → ℕ → ℕ → Bool
is_free_ahead config pool h t k = is_free pool h (first_issue config h + t) k

-- the operations of a kind that start t cycles later
abbrev pub starts_ahead : Configuration → UnitId → List Done → ℕ → ℕ
starts_ahead config unit h t = starts_in unit h (first_issue config h + t)

-- the results that end t cycles later
abbrev pub results_ahead : Configuration → List Done → ℕ → ℕ
results_ahead config h t = results_in h (first_issue config h + t)

-- from the first cycle on in which a next access may start, how long an older one is under way; 0 if none can meet it
abbrev pub lateness : Configuration → List Done → ℕ → ℕ
lateness config h i = of_access (λ d. d.at.finish) 0 h i + 1 - first_access config h

-- To the next step two histories look alike. The last w accesses are compared; no later access can meet an older one.
pub record LooksLike (config : Configuration) (w : ℕ) (g h : List Done) : Type 0 where
  pub issued : issued_now config g ≡ issued_now config h
  pub width : width_wait config g ≡ width_wait config h
  pub end : ahead config g ≡ ahead config h
  pub address : address_ahead config g ≡ address_ahead config h
  pub ends : (r : ℕ) → end_ahead config g r ≡ end_ahead config h r
  pub free : (pool : PoolId) (t k : ℕ) → is_free_ahead config pool g t k ≡ is_free_ahead config pool h t k
  pub starts : (unit : UnitId) (t : ℕ) → 0 < t → starts_ahead config unit g t ≡ starts_ahead config unit h t
  pub results : (t : ℕ) → 0 < t → results_ahead config g t ≡ results_ahead config h t
  pub accesses : (i : ℕ) → i < w → lateness config g i ≡ lateness config h i
  pub older : (i : ℕ) → w ≤ i → (lateness config g i ≡ 0) × (lateness config h i ≡ 0)

-- Two steps are the same to the recurrence, after these histories: they have the same pool, destination and operands,
-- and conflict with the same ones of the last w accesses.
pub record IsSameStep (w : ℕ) (g h : List Done) (x y : Step) : Type 0 where
  pub pool : step_pool x ≡ step_pool y
  pub dest : step_dest x ≡ step_dest y
  pub j : register_of (j_of x) ≡ register_of (j_of y)
  pub k : register_of (k_of x) ≡ register_of (k_of y)
  pub conflicts : (i : ℕ) → i < w → conflicts_with g x i ≡ conflicts_with h y i

-- a is as far after n as b is after m
pub record IsAsFar (n m a b : ℕ) : Type 0 where
  pub first : n ≤ a
  pub second : m ≤ b
  pub far : a - n ≡ b - m

-- the same of two addresses, if there are any
abbrev pub IsAddressAsFar : (n m : ℕ) → Option ℕ → Option ℕ → Type 0
IsAddressAsFar n m None None = Unit {0}
IsAddressAsFar n m (Some a) (Some b) = IsAsFar n m a b
IsAddressAsFar n m _ _ = ⊥

-- the same of the times of two steps, on the same station
pub record AreAsFar (n m : ℕ) (a b : Times) : Type 0 where
  pub issue : IsAsFar n m a.issue b.issue
  pub address : IsAddressAsFar n m a.address b.address
  pub start : IsAsFar n m a.start b.start
  pub finish : IsAsFar n m a.finish b.finish
  pub end : IsAsFar n m a.end b.end
  pub station : a.station ≡ b.station
