-- Where a run is after some of its steps.
use Rattle.std.specs.Prelude.{ℕ, zero, suc, Result, Ok, Err}
use Rattle.tomex_cut.specs.declared.error.CutError.{CutError}
use Rattle.tomex_cut.specs.declared.error.CutError.TheVariants as errors
use Rattle.tomex_rvexec.specs.Machine.{State, Outcome, Goes, Ends, Faults, step_of}

-- the state that a step leaves, if the run goes on; else why no step comes after it
abbrev pub left_by : Outcome → State → Result State CutError
left_by (Goes t) s = Ok t
left_by (Ends kind) s = Err errors.NoSuchStep
left_by (Faults kind) s = Err (errors.Fault (record { kind = kind; pc = s.pc }))

-- one more step, unless the run is over
abbrev pub and_a_step : Result State CutError → Result State CutError
and_a_step (Ok s) = left_by (step_of s) s
and_a_step (Err e) = Err e

-- the state after n steps from a state on
abbrev pub after : State → ℕ → Result State CutError
after s zero = Ok s
after s (suc n) = and_a_step (after s n)
