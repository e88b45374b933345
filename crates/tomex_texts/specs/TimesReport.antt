-- The times report of a run: a record for each step, and one for the total.
use Rattle.std.specs.Prelude.{ℕ, ◌+◌, List, [], ◌∷◌, ◌++◌, codes, Option, Some, None}
use Rattle.std.specs.Fmt.{decimal}
use Rattle.tomex_rvdec.specs.Places.{name_of_pool}
use Rattle.tomex_rvdec.specs.Text.{hex8, instr_text}
use Rattle.tomex_rvdec.specs.declared.pool.PoolId.{PoolId}
use Rattle.tomex_rvexec.specs.Steps.{step_pool}
use Rattle.tomex_rvexec.specs.declared.step.Step.{Step}
use Rattle.tomex_config.specs.Configuration.{Configuration}
use Rattle.tomex_timing.specs.Search.{times_in, total_of}
use Rattle.tomex_timing.specs.declared.times.Times.{Times}
use Rattle.tomex_layout.specs.Csv.{record_text}

abbrev pub header : List (List ℕ)
header =
    codes "step" ∷ codes "pc" ∷ codes "instr" ∷ codes "issue" ∷ codes "addr" ∷ codes "start" ∷ codes "finish"
    ∷ codes "end" ∷ codes "station" ∷ []

-- a cycle, or `-` if there is none
abbrev pub cycle_text : Option ℕ → List ℕ
cycle_text None = codes "-"
cycle_text (Some cycle) = decimal cycle

-- a station by its pool and number, as `alu0`, or `-` if there is none
abbrev pub station_text : Option PoolId → Option ℕ → List ℕ
station_text (Some pool) (Some number) = name_of_pool pool ++ decimal number
station_text _ _ = codes "-"

-- the fields of a step; steps are numbered from 1
abbrev pub fields_of_step : ℕ → Step → Times → List (List ℕ)
fields_of_step number step at =
    decimal number ∷ hex8 step.pc ∷ instr_text step.instr
    ∷ decimal at.issue ∷ cycle_text at.address ∷ decimal at.start ∷ decimal at.finish ∷ decimal at.end
    ∷ station_text (step_pool step) at.station ∷ []

-- the records of the steps from a number on
abbrev pub step_records : ℕ → List Step → List Times → List ℕ
step_records number (step ∷ steps) (at ∷ times) =
    record_text (fields_of_step number step at) ++ step_records (number + 1) steps times
step_records number _ _ = []

abbrev pub total_fields : ℕ → List (List ℕ)
total_fields total =
    codes "total" ∷ codes "-" ∷ codes "-" ∷ codes "-" ∷ codes "-" ∷ codes "-" ∷ codes "-" ∷ decimal total ∷ codes "-"
    ∷ []

-- the report of steps that have these times
abbrev pub report_of_times : List Step → List Times → List ℕ
report_of_times steps times =
    record_text header ++ (step_records 1 steps times ++ record_text (total_fields (total_of times)))

-- the report of a run's steps on a configuration
abbrev pub times_report_of : Configuration → List Step → List ℕ
times_report_of config steps = report_of_times steps (times_in config steps)
