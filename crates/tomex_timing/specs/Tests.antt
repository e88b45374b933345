-- What the tests of the recurrence say, as plain inequalities: a step passes a test in a cycle exactly if these hold.
use Rattle.std.specs.Prelude.{ℕ, ◌<◌, ◌≤◌, ◌==◌, ◌&&◌, IsTrue, List, count_by, is_some, All, IfSome}
use Rattle.tomex_rvdec.specs.declared.pool.UnitId.{UnitId}
use Rattle.tomex_rvexec.specs.Steps.{step_pool, step_unit, step_dest, j_of, k_of, is_branch}
use Rattle.tomex_rvexec.specs.declared.step.Step.{Step}
use Rattle.tomex_config.specs.Configuration.{Configuration, stations_of, option_of}
use Rattle.tomex_timing.specs.declared.times.Done.{Done}
use Rattle.tomex_timing.specs.History.{is_of, source_end, last_issue, last_address}
use Rattle.tomex_timing.specs.Recurrence.{conflicts}
use Rattle.tomex_timing.specs.Station.{is_held}

-- fewer than the width issue in the cycle, each older branch has finished, and a station is left
pub record CanIssue (config : Configuration) (older : List Done) (s : Step) (t : ℕ) : Type 0 where
  pub first : 0 < t
  pub in_order : last_issue older ≤ t
  pub slot_left : count_by (λ d. d.at.issue == t) older < config.width
  pub branches_finished : All (λ d. IsTrue (is_branch d.step) → d.at.finish < t) older
  pub station_left : IfSome (step_pool s) (λ pool. count_by (is_held pool t) older < stations_of config pool)

-- after the base register's producer, and after the older load or store
pub record CanAddress (older : List Done) (s : Step) (issue t : ℕ) : Type 0 where
  pub after_issue : issue < t
  pub after_base : source_end older (j_of s) < t
  pub in_order : last_address older < t

-- both operands are there, each older access that blocks it has finished, and a unit is left
pub record CanStart (config : Configuration) (older : List Done) (s : Step) (unit : UnitId) (issue address t : ℕ) : Type
    0 where
  pub after_issue : issue < t
  pub after_address : address < t
  pub after_j : source_end older (j_of s) < t
  pub after_k : source_end older (k_of s) < t
  pub conflicts_finished : All (λ d. IsTrue (conflicts d.step s) → d.at.finish < t) older
  pub unit_left : count_by (λ d. is_of unit (step_unit d.step) && d.at.start == t) older < (option_of config unit).units

-- of a result: a bus is left
pub record CanEnd (config : Configuration) (older : List Done) (finish t : ℕ) : Type 0 where
  pub after_finish : finish < t
  pub bus_left : count_by (λ d. is_some (step_dest d.step) && d.at.end == t) older < config.buses
