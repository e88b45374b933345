-- What is kept of a run while its drain is found.
use Rattle.std.specs.Prelude.{ℕ, ◌+◌, Option, Some, None, is_some}
use Rattle.tomex_rvdec.specs.declared.pool.UnitId.{UnitId}
use Rattle.tomex_rvexec.specs.Steps.{step_dest, step_unit}
use Rattle.tomex_rvexec.specs.declared.step.Step.{Step}
use Rattle.tomex_config.specs.Configuration.{Configuration}
use Rattle.tomex_timing.specs.Laws.{work_by}
use Rattle.tomex_timing.specs.declared.need.Waits.{Waits}

-- the cycles from a step's issue to its end: its waits, its latency, and a cycle on a bus for its result
abbrev pub cycles_in_unit : Configuration → Option UnitId → Step → Waits → ℕ
cycles_in_unit config None step waits = 0
cycles_in_unit config (Some unit) step waits =
    waits.operand + waits.address + waits.memory + waits.unit + waits.bus
    + work_by config (Some unit) (is_some (step_dest step))

abbrev pub cycles_under_way : Configuration → Step → Waits → ℕ
cycles_under_way config step waits = cycles_in_unit config (step_unit step) step waits
