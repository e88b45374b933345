-- The floor of a run: its times if nothing ever waits for a station, a unit or a bus. Each is one more than the
-- greatest of finitely many older ones, so no machine with these latencies and this width is faster.
-- Sources: those of the recurrence, whose words it uses. That it is a bound, and the greatest one, is this project's.
use Rattle.std.specs.Prelude.{ℕ, zero, suc, ◌+◌, ◌-◌, ◌≤◌, Bool, false, IsTrue, if◌then◌else◌, List, [], ◌∷◌}
use Rattle.std.specs.Prelude.{Option, Some}
use Rattle.std.specs.Prelude.{None, is_some, map, max, reverse}
use Rattle.tomex_rvdec.specs.declared.pool.UnitId.{UnitId}
use Rattle.tomex_rvdec.specs.declared.pool.UnitId.TheVariants.{Alu, Mul, Div, Mem, Bru}
use Rattle.tomex_rvexec.specs.Steps.{step_unit, step_dest, j_of, k_of, is_branch}
use Rattle.tomex_rvexec.specs.declared.step.Step.{Step}
use Rattle.tomex_config.specs.Configuration.{Configuration, option_of}
use Rattle.tomex_config.specs.declared.config.UnitOption.{UnitOption}
use Rattle.tomex_timing.specs.declared.times.Done.{Done}
use Rattle.tomex_timing.specs.declared.times.Times.{Times}
use Rattle.tomex_timing.specs.History.{is_memory, cycle_of, source_end, last_address, greatest_end}
use Rattle.tomex_timing.specs.Recurrence.{conflicts}

-- the greatest finish of the older steps that pass a test, 0 if there is none
abbrev pub last_finish : (Step → Bool) → List Done → ℕ
last_finish p [] = 0
last_finish p (d ∷ older) = max (if p d.step then d.at.finish else 0) (last_finish p older)

-- the issue of an older step, the youngest being number 0; 0 if there is none
abbrev pub issue_back : List Done → ℕ → ℕ
issue_back [] n = 0
issue_back (d ∷ older) zero = d.at.issue
issue_back (d ∷ older) (suc n) = issue_back older n

-- later than the finish of each older branch, and than the issue of the w-th step before it
abbrev pub floor_issue : ℕ → List Done → ℕ
floor_issue w older = 1 + max (last_finish is_branch older) (issue_back older (w - 1))

-- of a load or store: later than its issue, the end of its base's producer, and the previous address
abbrev pub floor_address : List Done → Step → ℕ → Option ℕ
floor_address older s issue =
    if is_memory s then Some (1 + max issue (max (source_end older (j_of s)) (last_address older))) else None

-- later than its issue and address, the ends of its operands' producers, and the finish of each older access that
-- it conflicts with
abbrev pub floor_start : List Done → Step → ℕ → ℕ → ℕ
floor_start older s issue address =
    1 + max issue (max address (max (source_end older (j_of s))
    (max (source_end older (k_of s)) (last_finish (λ x. conflicts x s) older))))

-- a result is on a bus in the cycle after its finish
abbrev pub floor_end : Step → ℕ → ℕ
floor_end s finish = if is_some (step_dest s) then finish + 1 else finish

-- FENCE, ECALL and EBREAK start, finish and end as they issue
abbrev pub floor_from : (UnitId → ℕ) → List Done → Step → ℕ → Option ℕ → Option UnitId → Times
floor_from latency older s issue address None = record {
  issue = issue;
  address = address;
  start = issue;
  finish = issue;
  end = issue;
  station = None;
}
floor_from latency older s issue address (Some unit) =
    let start = floor_start older s issue (cycle_of address) in
    let finish = start + latency unit - 1 in
    record {
      issue = issue;
      address = address;
      start = start;
      finish = finish;
      end = floor_end s finish;
      station = None;
    }

abbrev pub floor_times : (UnitId → ℕ) → ℕ → List Done → Step → Times
floor_times latency w older s =
    floor_from latency older s (floor_issue w older) (floor_address older s (floor_issue w older)) (step_unit s)

-- the steps with their floors, the youngest first
abbrev pub floors_of : (UnitId → ℕ) → ℕ → List Step → List Done
floors_of latency w [] = []
floors_of latency w (s ∷ older) =
    record { step = s; at = floor_times latency w (floors_of latency w older) s } ∷ floors_of latency w older

-- the floor of a run, whose steps are in program order
abbrev pub floor_of : (UnitId → ℕ) → ℕ → List Step → ℕ
floor_of latency w steps = greatest_end (floors_of latency w (reverse steps))

-- the floors of a run for the issue widths from 1 to 4
abbrev pub floors_by_width : (UnitId → ℕ) → List Step → List ℕ
floors_by_width latency steps = floor_of latency 1 steps ∷ floor_of latency 2 steps ∷ floor_of latency 3 steps
    ∷ floor_of latency 4 steps ∷ []

-- a configuration's latencies

-- each time of the first is no later than the second's
pub record IsNoLater (a b : Times) : Type 0 where
  pub issue : a.issue ≤ b.issue
  pub address : cycle_of a.address ≤ cycle_of b.address
  pub start : a.start ≤ b.start
  pub finish : a.finish ≤ b.finish
  pub end : a.end ≤ b.end

-- the same step by step, for two histories of one length
abbrev pub AreNoLater : List Done → List Done → Type 0
AreNoLater [] [] = Unit {0}
AreNoLater [] (b ∷ h) = IsTrue false
AreNoLater (a ∷ f) [] = IsTrue false
AreNoLater (a ∷ f) (b ∷ h) = IsNoLater a.at b.at × AreNoLater f h

-- a configuration with n of each part, these latencies and this width: n steps can't use up any part
abbrev pub many : (UnitId → ℕ) → ℕ → UnitId → UnitOption
many latency n unit = record { units = n; latency = latency unit; price = 0 }

abbrev pub unlimited : (UnitId → ℕ) → ℕ → ℕ → Configuration
unlimited latency w n = record {
  stations = n ∷ n ∷ n ∷ n ∷ n ∷ n ∷ [];
  units = many latency n Alu ∷ many latency n Mul ∷ many latency n Div ∷ many latency n Mem ∷ many latency n Bru ∷ [];
  buses = n;
  width = w;
}

-- times without their station
abbrev pub without_station : Times → Times
without_station at = record {
  issue = at.issue;
  address = at.address;
  start = at.start;
  finish = at.finish;
  end = at.end;
  station = None;
}

abbrev pub all_without_station : List Done → List Done
all_without_station h = map (λ d. record { step = d.step; at = without_station d.at }) h
