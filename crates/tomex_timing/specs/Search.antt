-- The same times as a function: each is searched for up to a cycle in which nothing older can block the step.
use Rattle.std.specs.Prelude.{ℕ, zero, suc, ◌+◌, ◌-◌, Bool, if◌then◌else◌, List, []}
use Rattle.std.specs.Prelude.{◌∷◌, Option, Some, None, is_some, map, reverse, max}
use Rattle.tomex_rvdec.specs.declared.pool.PoolId.{PoolId}
use Rattle.tomex_rvdec.specs.declared.pool.UnitId.{UnitId}
use Rattle.tomex_rvexec.specs.Steps.{step_pool, step_unit, step_dest}
use Rattle.tomex_rvexec.specs.declared.step.Step.{Step}
use Rattle.tomex_config.specs.Configuration.{Configuration, stations_of, option_of}
use Rattle.tomex_timing.specs.declared.times.Done.{Done}
use Rattle.tomex_timing.specs.declared.times.Times.{Times}
use Rattle.tomex_timing.specs.History.{is_memory, cycle_of, greatest_end}
use Rattle.tomex_timing.specs.Station.{is_free}
use Rattle.tomex_timing.specs.Recurrence.{can_issue, can_address, can_start, can_end}

-- the first number from t on that passes; t + n if none before it does
abbrev pub first_from : (ℕ → Bool) → ℕ → ℕ → ℕ
first_from p t zero = t
first_from p t (suc n) = if p t then t else first_from p (suc t) n

abbrev pub least : (ℕ → Bool) → ℕ → ℕ
least p bound = first_from p 0 bound

-- g is the greatest end before the step
abbrev pub issue_of : Configuration → List Done → Step → ℕ → ℕ
issue_of config older s g = least (can_issue config older s) (g + 1)

abbrev pub address_at : List Done → Step → ℕ → ℕ → Option ℕ
address_at older s issue g = if is_memory s then Some (least (can_address older s issue) (g + 2)) else None

abbrev pub station_at : Configuration → List Done → Option PoolId → ℕ → Option ℕ
station_at config older None issue = None
station_at config older (Some pool) issue = Some (least (is_free pool older issue) (stations_of config pool))

abbrev pub start_of : Configuration → List Done → Step → UnitId → ℕ → ℕ → ℕ → ℕ
start_of config older s unit issue address g = least (can_start config older s unit issue address) (g + 3)

abbrev pub end_of : Configuration → List Done → Step → ℕ → ℕ → ℕ
end_of config older s finish g = if is_some (step_dest s) then least (can_end config older finish) (g + 67) else finish

abbrev pub times_from : Configuration → List Done → Step → ℕ → ℕ → Option ℕ → Option UnitId → Times
times_from config older s g issue address None = record {
  issue = issue;
  address = address;
  start = issue;
  finish = issue;
  end = issue;
  station = station_at config older (step_pool s) issue;
}
times_from config older s g issue address (Some unit) =
    let start = start_of config older s unit issue (cycle_of address) g in
    let finish = start + (option_of config unit).latency - 1 in
    record {
      issue = issue;
      address = address;
      start = start;
      finish = finish;
      end = end_of config older s finish g;
      station = station_at config older (step_pool s) issue;
    }

-- the times of the next step
unfoldable pub times_of : Configuration → List Done → Step → Times
times_of config older s =
    let g = greatest_end older in
    let issue = issue_of config older s g in
    times_from config older s g issue (address_at older s issue g) (step_unit s)

-- the steps with their times, the youngest first
abbrev pub timed_of : Configuration → List Step → List Done
timed_of config [] = []
timed_of config (s ∷ older) =
    record { step = s; at = times_of config (timed_of config older) s } ∷ timed_of config older

-- the history of a run, whose steps are in program order
abbrev pub history : Configuration → List Step → List Done
history config steps = timed_of config (reverse steps)

-- the times of a run's steps, in program order
abbrev pub times_in : Configuration → List Step → List Times
times_in config steps = map (λ d. d.at) (reverse (history config steps))

-- the cycles that a run takes: its greatest end; 0 if it has no steps
abbrev pub total_of : List Times → ℕ
total_of [] = 0
total_of (at ∷ ats) = max at.end (total_of ats)
