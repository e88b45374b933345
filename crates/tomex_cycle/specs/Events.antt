-- The events of a cycle: an instruction's issue, address, start, finish and end are one event each, even if they fall
-- in the same cycle.
use Rattle.std.specs.Prelude.{ℕ, zero, suc, ◌+◌, ◌*◌, ◌≤◌, ◌<◌, ◌≡◌, ◌⊎◌, ◌==◌, if◌then◌else◌, List, [], ◌∷◌}
use Rattle.tomex_timing.specs.declared.times.Done.{Done}
use Rattle.tomex_timing.specs.declared.times.Times.{Times}
use Rattle.tomex_timing.specs.History.{cycle_of}

-- 1 for an event of the cycle
abbrev pub falls_in : ℕ → ℕ → ℕ
falls_in t a = if a == t then 1 else 0

-- the number of an instruction's events in the cycle
abbrev pub events_of : ℕ → Times → ℕ
events_of t at =
    falls_in t at.issue + falls_in t (cycle_of at.address) + falls_in t at.start + falls_in t at.finish
    + falls_in t at.end

-- the number of a run's events in the cycle
abbrev pub events_in : ℕ → List Done → ℕ
events_in t [] = 0
events_in t (d ∷ older) = events_of t d.at + events_in t older

-- the number of events up to and including the cycle; cycles are counted from 1
abbrev pub events_by : List Done → ℕ → ℕ
events_by h zero = 0
events_by h (suc t) = events_by h t + events_in (suc t) h

-- the number of cycles, up to and including this one, in which anything happens
abbrev pub eventful_by : List Done → ℕ → ℕ
eventful_by h zero = 0
eventful_by h (suc t) = eventful_by h t + (if events_in (suc t) h == 0 then 0 else 1)

-- The rise of a count of made cycles from one cycle to another: by at least the number of those in which anything
-- happens, and by at most one more than twice the events. Both without subtraction.
pub record IsCounted (h : List Done) (from reached before after : ℕ) : Type 0 where
  pub least : eventful_by h reached + before ≤ after + eventful_by h from
  pub most : after + 2 * events_by h from ≤ before + 2 * events_by h reached + 1

-- one cycle is made, and those after it are skipped, since nothing happens in them; and if nothing happens in the made
-- one, the bound is reached, or something happens in the next one
pub record SkipsTo (h : List Done) (to from now : ℕ) : Type 0 where
  pub on : from + 1 ≤ now
  pub quiet : (k : ℕ) → from + 1 < k → k ≤ now → events_in k h ≡ 0
  pub pays : (0 < events_in (from + 1) h) ⊎ ((to ≤ now) ⊎ (0 < events_in (now + 1) h))

-- once, or twice in a row; each time the count of made cycles grows by one
abbrev pub GoesOn : List Done → (to from now before after : ℕ) → Type 0
GoesOn h to from now before after =
    ((after ≡ before + 1) × SkipsTo h to from now)
    ⊎ ((between : ℕ) × (between < to) × (after ≡ before + 2) × SkipsTo h to from between × SkipsTo h to between now)
