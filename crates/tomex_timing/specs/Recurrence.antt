-- The cycles in which each step of a run issues, gets its address, starts, finishes and ends: the least cycle that
-- passes a test over what is older.
-- Sources: R. M. Tomasulo, "An Efficient Algorithm for Exploiting Multiple Arithmetic Units", 1967; Hennessy and
-- Patterson, "Computer Architecture: A Quantitative Approach", the chapter on Tomasulo's algorithm.
-- What they leave open this project chooses, and says so.
use Rattle.std.specs.Prelude.{ℕ, ◌+◌, ◌-◌, ◌<◌, ◌≡◌, ◌==◌, nat_lt, nat_le, Bool, false, not, ◌&&◌, ◌||◌}
use Rattle.std.specs.Prelude.{IsTrue, List, [], ◌∷◌, Some, None, count_by, is_some, MatchOption}
use Rattle.std.specs.Bool.{MatchBool}
use Rattle.std.specs.List.{list_all}
use Rattle.tomex_rvdec.specs.declared.pool.UnitId.{UnitId}
use Rattle.tomex_rvexec.specs.Steps.{step_pool, step_unit, step_dest, j_of, k_of, bytes_of, is_branch, is_store}
use Rattle.tomex_rvexec.specs.Steps.{shares_byte}
use Rattle.tomex_rvexec.specs.declared.step.Step.{Step}
use Rattle.tomex_config.specs.Configuration.{Configuration, option_of}
use Rattle.tomex_timing.specs.declared.times.Done.{Done}
use Rattle.tomex_timing.specs.declared.times.Times.{Times}
use Rattle.tomex_timing.specs.History.{is_of, is_memory, cycle_of, source_end, last_issue, last_address}
use Rattle.tomex_timing.specs.Station.{has_station, is_free}

-- t is the least number that passes
abbrev pub IsLeast : (ℕ → Bool) → ℕ → Type 0
IsLeast p t = IsTrue (p t) × ((s : ℕ) → s < t → p s ≡ false)

-- no earlier than the previous issue, and fewer than the width of the older ones issue in the cycle
abbrev pub can_issue_another : Configuration → List Done → ℕ → Bool
can_issue_another config older t =
    nat_le (last_issue older) t && nat_lt (count_by (λ d. d.at.issue == t) older) config.width

-- each older branch, a conditional one or JALR, has finished
abbrev pub are_branches_finished : List Done → ℕ → Bool
are_branches_finished older t = list_all (λ d. not (is_branch d.step) || nat_lt d.at.finish t) older

-- Issue. Hennessy and Patterson: in program order, if a reservation station is free.
-- This project: as many in a cycle as the configuration's width; nothing is speculated, so later than the finish of
-- each older branch.
abbrev pub can_issue : Configuration → List Done → Step → ℕ → Bool
can_issue config older s t =
    nat_lt 0 t && can_issue_another config older t && are_branches_finished older t
    && has_station config older (step_pool s) t

-- Address. Hennessy and Patterson: loads and stores compute their addresses in program order, from the
-- base register. This project: one in a cycle.
abbrev pub can_address : List Done → Step → ℕ → ℕ → Bool
can_address older s issue t =
    nat_lt issue t && nat_lt (source_end older (j_of s)) t && nat_lt (last_address older) t

-- the producers of both operands have ended
abbrev pub has_operands : List Done → Step → ℕ → Bool
has_operands older s t = nat_lt (source_end older (j_of s)) t && nat_lt (source_end older (k_of s)) t

-- two accesses that share a byte, one of them a store: the later one waits for the earlier one's finish
abbrev pub conflicts : Step → Step → Bool
conflicts a b = shares_byte (bytes_of a) (bytes_of b) && (is_store a || is_store b)

abbrev pub are_conflicts_finished : List Done → Step → ℕ → Bool
are_conflicts_finished older s t = list_all (λ d. not (conflicts d.step s) || nat_lt d.at.finish t) older

-- a unit of the kind is free: each starts one operation in a cycle
abbrev pub has_unit : Configuration → List Done → UnitId → ℕ → Bool
has_unit config older unit t =
    nat_lt (count_by (λ d. is_of unit (step_unit d.step) && d.at.start == t) older) (option_of config unit).units

-- Start. Tomasulo: after the operands have arrived on the common data bus, if a unit is free.
-- Hennessy and Patterson: an access waits for older ones to its bytes, unless both are loads.
-- This project: units are pipelined, and the oldest operations are served first.
abbrev pub can_start : Configuration → List Done → Step → UnitId → ℕ → ℕ → ℕ → Bool
can_start config older s unit issue address t =
    nat_lt issue t && nat_lt address t && has_operands older s t && are_conflicts_finished older s t
    && has_unit config older unit t

-- a bus is free
abbrev pub has_bus : Configuration → List Done → ℕ → Bool
has_bus config older t =
    nat_lt (count_by (λ d. is_some (step_dest d.step) && d.at.end == t) older) config.buses

-- End. Tomasulo: after the unit, the result is sent over the common data bus. This project: there may
-- be several buses, and the oldest results are served first.
abbrev pub can_end : Configuration → List Done → ℕ → ℕ → Bool
can_end config older finish t = nat_lt finish t && has_bus config older t

-- a result ends in the first cycle with a bus for it; a step without a destination ends as it finishes
abbrev pub EndsAfter : Configuration → List Done → Step → ℕ → ℕ → Type 0
EndsAfter config older s finish end =
    MatchBool (is_some (step_dest s)) (IsLeast (can_end config older finish) end) (end ≡ finish)

-- The times of a step, given the history of what is older. FENCE, ECALL and EBREAK use no station, unit
-- or bus: they start, finish and end as they issue.
pub record IsTimed (config : Configuration) (older : List Done) (s : Step) (at : Times) : Type 0 where
  pub issue : IsLeast (can_issue config older s) at.issue
  -- loads and stores have an address cycle
  pub address : MatchBool (is_memory s)
      (IsLeast (can_address older s at.issue) (cycle_of at.address))
      (at.address ≡ None)
  pub start : MatchOption (step_unit s)
      (at.start ≡ at.issue)
      (λ unit. IsLeast (can_start config older s unit at.issue (cycle_of at.address)) at.start)
  -- the last of the unit's cycles
  pub finish : MatchOption (step_unit s)
      (at.finish ≡ at.issue)
      (λ unit. at.finish ≡ at.start + (option_of config unit).latency - 1)
  pub end : MatchOption (step_unit s)
      (at.end ≡ at.issue)
      (λ unit. EndsAfter config older s at.finish at.end)
  -- the free station with the least number
  pub station : MatchOption (step_pool s)
      (at.station ≡ None)
      (λ pool. (n : ℕ) × (at.station ≡ Some n) × IsLeast (is_free pool older at.issue) n)

-- each step of a history has the times of the recurrence
abbrev pub AreTimed : Configuration → List Done → Type 0
AreTimed config [] = Unit {0}
AreTimed config (d ∷ older) = IsTimed config older d.step d.at × AreTimed config older
