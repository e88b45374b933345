-- What the walk along a path sees of a step, as it is computed: in one pass over a run, from the first step on.
use Rattle.std.specs.Prelude.{ℕ, ◌+◌, ◌-◌, ◌^◌, ◌<◌, ◌≡◌, ◌==◌, nat_lt, if◌then◌else◌, List, [], ◌∷◌, length}
use Rattle.std.specs.Prelude.{reverse, take}
use Rattle.tomex_rvexec.specs.Steps.{j_of, k_of}
use Rattle.tomex_rvexec.specs.declared.step.Step.{Step}
use Rattle.tomex_config.specs.Configuration.{Configuration, IsWithinLimits}
use Rattle.tomex_config.specs.declared.part.Part.TheVariants.{Stations, Units, Buses, Width}
use Rattle.tomex_timing.specs.declared.need.Waits.{Waits}
use Rattle.tomex_timing.specs.declared.recent.Facts.{Facts}
use Rattle.tomex_timing.specs.declared.times.Done.{Done}
use Rattle.tomex_timing.specs.declared.times.Times.{Times}
use Rattle.tomex_timing.specs.History.{cycle_of, greatest_end, last_issue, source_end}
use Rattle.tomex_timing.specs.Needs.{waits_of}
use Rattle.tomex_timing.specs.Recent.{AreFacts, facts_of}
use Rattle.tomex_timing.specs.Search.{history, times_in, times_of}
use Rattle.tomex_path.specs.declared.note.IssueWait.{IssueWait}
use Rattle.tomex_path.specs.declared.note.IssueWait.TheVariants as issues
use Rattle.tomex_path.specs.declared.note.Note.{Note}
use Rattle.tomex_path.specs.declared.note.Seen.{Seen}
use Rattle.tomex_path.specs.declared.note.StartWait.{StartWait}
use Rattle.tomex_path.specs.declared.note.StartWait.TheVariants as starts
use Rattle.tomex_path.specs.declared.reason.Reason.{Reason}
use Rattle.tomex_path.specs.declared.reason.Reason.TheVariants as reasons

-- what a step waited for last before its issue, and how long
abbrev pub issue_wait : Waits → IssueWait × ℕ
issue_wait waits =
    if nat_lt 0 waits.station
    then (issues.Station, waits.station)
    else
    if nat_lt 0 waits.width
    then (issues.Width, waits.width)
    else
    if nat_lt 0 waits.branch
    then (issues.Branch, waits.branch)
    else (issues.Nothing, 0)

-- and before its start
abbrev pub start_wait : Waits → StartWait × ℕ
start_wait waits =
    if nat_lt 0 waits.unit
    then (starts.Unit, waits.unit)
    else
    if nat_lt 0 waits.memory
    then (starts.Memory, waits.memory)
    else
    if nat_lt 0 waits.address
    then (starts.Address, waits.address)
    else
    if nat_lt 0 waits.operand
    then (starts.Operand, waits.operand)
    else (starts.Nothing, 0)

-- The note of a step with these times and waits, given the greatest end before it and the ends of its operands'
-- producers. A producer that ends in the cycle before an address is what the address waited for.
abbrev pub note_from : ℕ → ℕ → ℕ → Times → Waits → Note
note_from greatest j k at waits =
    let base = j + 1 == cycle_of at.address in
    record {
      issue_cycles = (issue_wait waits).1;
      start_cycles = (start_wait waits).1;
      address_cycles = if base then waits.operand else waits.address;
      issue = (issue_wait waits).0;
      start = (start_wait waits).0;
      is_last = nat_lt greatest at.end;
      base = base;
      j = j + 1 == at.start;
      k = k + 1 == at.start;
    }

abbrev pub note_of : Configuration → List Done → Done → Note
note_of config older d =
    note_from (greatest_end older) (source_end older (j_of d.step)) (source_end older (k_of d.step)) d.at
    (waits_of config older d)

abbrev pub seen_of : Configuration → List Done → Done → Seen
seen_of config older d = record {
  facts = facts_of d.step;
  at = d.at;
  previous = last_issue older;
  note = note_of config older d;
}

-- the wait of a result for a bus
abbrev pub bus_wait : Times → ℕ
bus_wait at = at.end - (at.finish + 1)

-- how long a step waited for an operand, if that holds its start or its address
abbrev pub operand_wait : StartWait → Note → ℕ
operand_wait starts.Operand note = note.start_cycles
operand_wait other note = note.address_cycles

-- how long a step waited for what holds one of its events, by its note
abbrev pub noted_wait : Seen → Reason → ℕ
noted_wait seen (reasons.For (Stations pool)) = seen.note.issue_cycles
noted_wait seen (reasons.For (Units unit)) = seen.note.start_cycles
noted_wait seen (reasons.For Buses) = bus_wait seen.at
noted_wait seen (reasons.For Width) = seen.note.issue_cycles
noted_wait seen reasons.Branch = seen.note.issue_cycles
noted_wait seen reasons.Operand = operand_wait seen.note.start seen.note
noted_wait seen reasons.Address = seen.note.address_cycles
noted_wait seen reasons.Memory = seen.note.start_cycles
noted_wait seen reasons.Order = 0

-- the notes of a history's steps, the youngest first
abbrev pub notes_over : Configuration → List Done → List Note
notes_over config [] = []
notes_over config (d ∷ older) = note_of config older d ∷ notes_over config older

-- the notes of a run's steps, in program order
abbrev pub notes_in : Configuration → List Step → List Note
notes_in config steps = reverse (notes_over config (history config steps))

-- what the walk is given is of one run
pub record IsEvaluated
    (config : Configuration) (steps : List Step) (facts : List Facts) (times : List Times)
    (notes : List Note) : Type 0 where
  pub good : IsWithinLimits config
  pub few : length steps < 2 ^ 56
  pub of_facts : AreFacts steps facts
  pub of_times : times ≡ times_in config steps
  pub of_notes : notes ≡ notes_in config steps

-- the step of a run at a place, with its times
abbrev pub done_at : Configuration → List Step → ℕ → Step → Done
done_at config steps place x = record { step = x; at = times_of config (history config (take place steps)) x }
