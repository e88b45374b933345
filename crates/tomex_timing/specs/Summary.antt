-- What the evaluator holds shows a history: the latest cycles are those of the history, and each question about a cycle
-- from a given one on is answered as over all its steps.
use Rattle.std.specs.Prelude.{ℕ, ◌+◌, ◌<◌, ◌≤◌, ◌≡◌, ◌==◌, nat_lt, ◌&&◌, List, All, count_by, is_some, length}
use Rattle.std.specs.Prelude.{slice_index}
use Rattle.std.specs.List.{list_all}
use Rattle.tomex_rvdec.specs.Places.{place_of_unit}
use Rattle.tomex_rvdec.specs.declared.pool.PoolId.{PoolId}
use Rattle.tomex_rvdec.specs.declared.pool.UnitId.{UnitId}
use Rattle.tomex_rvexec.specs.Steps.{step_dest, step_unit}
use Rattle.tomex_rvexec.specs.declared.step.Step.{Step}
use Rattle.tomex_reservations.specs.Reservations.{Reserved, bus_line, end_at, taken_at}
use Rattle.tomex_timing.specs.declared.accesses.Access.{Access}
use Rattle.tomex_timing.specs.declared.times.Done.{Done}
use Rattle.tomex_timing.specs.declared.recent.Latest.{Latest}
use Rattle.tomex_timing.specs.Ahead.{Held, is_past}
use Rattle.tomex_timing.specs.History.{greatest_end, is_of, last_address, last_issue, writer_end}
use Rattle.tomex_timing.specs.Issue.{branch_finish}
use Rattle.tomex_timing.specs.Recent.{facts_of}
use Rattle.tomex_timing.specs.Recurrence.{are_conflicts_finished}
use Rattle.tomex_timing.specs.Station.{is_free}

-- the latest cycles are those of this history
pub record IsKept (h : List Done) (latest : Latest) : Type 0 where
  pub ends : (r : ℕ) → r < 32 → slice_index latest.ends r ≡ writer_end h r
  pub count : length latest.ends ≡ 32
  pub issue : latest.issue ≡ last_issue h
  pub issued : latest.issued ≡ count_by (λ d. d.at.issue == last_issue h) h
  pub branch : latest.branch ≡ branch_finish h
  pub address : latest.address ≡ last_address h
  pub end : latest.end ≡ greatest_end h

-- a table, the ends of the stations' steps and the accesses under way answer as the history does, from a cycle on
pub record HoldsFrom (from : ℕ) (h : List Done) (table : Reserved) (ends : List ℕ)
    (accesses : List Access) : Type 0 where
  pub base : table.base ≤ from
  pub starts : (unit : UnitId) (t : ℕ) → from < t
      → taken_at table (place_of_unit unit) t ≡ count_by (λ d. is_of unit (step_unit d.step) && d.at.start == t) h
  pub results : (t : ℕ) → from < t
      → taken_at table bus_line t ≡ count_by (λ d. is_some (step_dest d.step) && d.at.end == t) h
  -- a station is free in a cycle if all steps that had it ended before
  pub stations : (pool : PoolId) (t n : ℕ) → 0 < t → from ≤ t → n < 16
      → is_free pool h t n ≡ nat_lt (end_at ends pool n) t
  pub size : length ends ≡ 96
  -- no next access starts earlier: its address comes after its issue and after the last address
  pub conflicts : (s : Step) (t : ℕ) → from + 2 ≤ t → last_address h + 2 ≤ t
      → list_all (is_past (facts_of s) t) accesses ≡ are_conflicts_finished h s t
  pub finishes : All (λ a. a.finish ≤ greatest_end h) accesses

-- what is held shows the history from a cycle on
pub record IsSummary (from : ℕ) (h : List Done) (held : Held) : Type 0 where
  pub kept : IsKept h held.latest
  pub holds : HoldsFrom from h held.table held.ends held.accesses
