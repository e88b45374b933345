-- A history: the steps of a run with their times, the youngest first, so that what comes after a step in the list is
-- older.
use Rattle.std.specs.Prelude.{ℕ, ◌==◌, Bool, false, ◌||◌, if◌then◌else◌, List, [], ◌∷◌, Option, Some, None, max}
use Rattle.tomex_rvdec.specs.Places.{place_of_unit}
use Rattle.tomex_rvdec.specs.declared.pool.PoolId.TheVariants.{Load, Store}
use Rattle.tomex_rvdec.specs.declared.pool.UnitId.{UnitId}
use Rattle.tomex_rvexec.specs.Steps.{is_in, is_number, step_pool, step_dest}
use Rattle.tomex_rvexec.specs.declared.step.Operand.{Operand}
use Rattle.tomex_rvexec.specs.declared.step.Step.{Step}
use Rattle.tomex_timing.specs.declared.times.Done.{Done}

-- the unit that is used, if any, is of this kind
abbrev pub is_of : UnitId → Option UnitId → Bool
is_of unit None = false
is_of unit (Some other) = place_of_unit other == place_of_unit unit

-- loads and stores
abbrev pub is_memory : Step → Bool
is_memory s = is_in Load (step_pool s) || is_in Store (step_pool s)

-- a cycle, or 0 if there is none: cycles are counted from 1
abbrev pub cycle_of : Option ℕ → ℕ
cycle_of None = 0
cycle_of (Some t) = t

-- the end of a register's producer, which is the youngest older step that writes it; 0 if there is none
abbrev pub writer_end : List Done → ℕ → ℕ
writer_end [] r = 0
writer_end (d ∷ older) r = if is_number (step_dest d.step) r then d.at.end else writer_end older r

-- the end of an operand's producer, 0 if there is none: x0 is never written
abbrev pub source_end : List Done → Option Operand → ℕ
source_end older None = 0
source_end older (Some o) = writer_end older o.register

abbrev pub last_issue : List Done → ℕ
last_issue [] = 0
last_issue (d ∷ older) = d.at.issue

-- the address cycle of the youngest load or store; 0 if there is none
abbrev pub last_address : List Done → ℕ
last_address [] = 0
last_address (d ∷ older) = if is_memory d.step then cycle_of d.at.address else last_address older

abbrev pub greatest_end : List Done → ℕ
greatest_end [] = 0
greatest_end (d ∷ older) = max d.at.end (greatest_end older)
