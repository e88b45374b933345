-- What holds the events of a step. An event comes in its cycle and no earlier, since a test of the recurrence failed in
-- the cycle before, by an event of an older step: that one holds it. Which it is, the last of the step's waits says.
-- If several events hold one, this project follows the youngest step's.
use Rattle.std.specs.Prelude.{ℕ, ◌+◌, ◌-◌, ◌==◌, nat_lt, Bool, false, ◌&&◌, ◌||◌, if◌then◌else◌, List}
use Rattle.std.specs.Prelude.{Option, Some, None, is_some}
use Rattle.tomex_rvdec.specs.declared.pool.UnitId.{UnitId}
use Rattle.tomex_rvexec.specs.declared.step.Operand.{Operand}
use Rattle.tomex_rvexec.specs.Steps.{step_pool, step_unit, step_dest, j_of, k_of, is_in, is_number, is_branch, is_store}
use Rattle.tomex_rvexec.specs.Steps.{bytes_of, shares_byte}
use Rattle.tomex_config.specs.declared.part.Part.TheVariants.{Stations, Units, Buses, Width}
use Rattle.tomex_timing.specs.declared.need.Waits.{Waits}
use Rattle.tomex_timing.specs.declared.tables.Tag.{Tag}
use Rattle.tomex_timing.specs.declared.times.Done.{Done}
use Rattle.tomex_timing.specs.declared.times.Times.{Times}
use Rattle.tomex_timing.specs.History.{is_of, is_memory, cycle_of, source_end, last_issue, greatest_end}
use Rattle.tomex_timing.specs.Recent.{register_of}
use Rattle.tomex_timing.specs.Tables.{tag_of}
use Rattle.tomex_path.specs.declared.event.Access.{Access}
use Rattle.tomex_path.specs.declared.event.Event.{Event}
use Rattle.tomex_path.specs.declared.event.Event.TheVariants as events
use Rattle.tomex_path.specs.declared.event.Holder.{Holder}
use Rattle.tomex_path.specs.declared.event.Holder.TheVariants as holders
use Rattle.tomex_path.specs.declared.hold.Hold.{Hold}
use Rattle.tomex_path.specs.declared.reason.Reason.{Reason}
use Rattle.tomex_path.specs.declared.reason.Reason.TheVariants as reasons

-- the cycle of an event
abbrev pub cycle_at : Event → Times → ℕ
cycle_at events.Issue at = at.issue
cycle_at events.Address at = cycle_of at.address
cycle_at events.Start at = at.start
cycle_at events.Finish at = at.finish
cycle_at events.End at = at.end

-- Which step holds: the youngest older one that passes, and by which of its events.

-- there is a register, and it is this destination
abbrev pub is_dest : Option ℕ → Option ℕ → Bool
is_dest None dest = false
is_dest (Some r) dest = is_number dest r

abbrev pub passes : Holder → List Done → Done → Bool
passes holders.Last older x = nat_lt (greatest_end older) x.at.end
passes (holders.FirstIssue t) older x = x.at.issue == t && nat_lt (last_issue older) t
passes holders.Branch older x = is_branch x.step
passes (holders.Station tag) older x = is_in tag.pool (step_pool x.step) && is_number x.at.station tag.number
passes (holders.Writer a b) older x = is_dest a (step_dest x.step) || is_dest b (step_dest x.step)
passes holders.Memory older x = is_memory x.step
passes (holders.Conflict a t) older x =
    shares_byte (bytes_of x.step) a.bytes && (is_store x.step || a.is_store) && x.at.finish == t
passes (holders.Unit unit t) older x = is_of unit (step_unit x.step) && x.at.start == t
passes (holders.Bus t) older x = is_some (step_dest x.step) && x.at.end == t

abbrev pub event_of : Holder → Event
event_of holders.Last = events.End
event_of (holders.FirstIssue t) = events.Issue
event_of holders.Branch = events.Finish
event_of (holders.Station tag) = events.End
event_of (holders.Writer a b) = events.End
event_of holders.Memory = events.Address
event_of (holders.Conflict a t) = events.Finish
event_of (holders.Unit unit t) = events.Start
event_of (holders.Bus t) = events.End

-- Why an event comes no earlier, the first cycle after the one that holds it, and which step has that.
abbrev pub held : Reason → ℕ → Holder → Hold
held reason from by = record { reason = reason; from = from; by = by }

-- Issue: held by the end of the step that had its station, by the first issue of a full cycle before, by an older
-- branch; or in its turn, by the first step that issues with it. The run's first step has nothing that holds it.

abbrev pub hold_turn : List Done → Done → Hold
hold_turn older d =
    held reasons.Order (if last_issue older == d.at.issue then d.at.issue + 1 else d.at.issue)
    (holders.FirstIssue d.at.issue)

abbrev pub hold_station : List Done → Done → Option Tag → Hold
hold_station older d None = hold_turn older d
hold_station older d (Some tag) = held (reasons.For (Stations tag.pool)) d.at.issue (holders.Station tag)

abbrev pub hold_issue : List Done → Done → Waits → Hold
hold_issue older d waits =
    if nat_lt 0 waits.station
    then hold_station older d (tag_of d)
    else
    if nat_lt 0 waits.width
    then held (reasons.For Width) d.at.issue (holders.FirstIssue (d.at.issue - 1))
    else
    if nat_lt 0 waits.branch
    then held reasons.Branch d.at.issue holders.Branch
    else hold_turn older d

-- Address: held by what holds the issue, if it comes just after it; by the end of the base's producer; or by the
-- address of the load or store before.
abbrev pub hold_address : List Done → Done → Waits → Hold
hold_address older d waits =
    let t = cycle_of d.at.address in
    if d.at.issue + 1 == t
    then hold_issue older d waits
    else
    if source_end older (j_of d.step) + 1 == t
    then held reasons.Operand t (holders.Writer (register_of (j_of d.step)) None)
    else held reasons.Address t holders.Memory

-- Start: held by the youngest operation that took a unit in the cycle before, by the youngest access in conflict that
-- finished in it, by what holds the address, by the end of a producer; or by what holds the issue.

-- the register of an operand whose producer ends in the cycle before
abbrev pub just_ended : List Done → Option Operand → ℕ → Option ℕ
just_ended older o t = if source_end older o + 1 == t then register_of o else None

abbrev pub hold_operand : List Done → Done → Waits → Hold
hold_operand older d waits =
    if nat_lt 0 waits.operand
    then
    held reasons.Operand d.at.start
    (holders.Writer (just_ended older (j_of d.step) d.at.start) (just_ended older (k_of d.step) d.at.start))
    else hold_issue older d waits

abbrev pub hold_unit : List Done → Done → Waits → Option UnitId → Hold
hold_unit older d waits None = hold_issue older d waits
hold_unit older d waits (Some unit) =
    held (reasons.For (Units unit)) d.at.start (holders.Unit unit (d.at.start - 1))

abbrev pub access_of : Done → Access
access_of d = record { bytes = bytes_of d.step; is_store = is_store d.step }

abbrev pub hold_start : List Done → Done → Waits → Hold
hold_start older d waits =
    if nat_lt 0 waits.unit
    then hold_unit older d waits (step_unit d.step)
    else
    if nat_lt 0 waits.memory
    then held reasons.Memory d.at.start (holders.Conflict (access_of d) (d.at.start - 1))
    else
    if nat_lt 0 waits.address
    then hold_address older d waits
    else hold_operand older d waits

-- End: held by the youngest result that took a bus in the cycle before, or by what holds the start.
abbrev pub hold_end : List Done → Done → Waits → Hold
hold_end older d waits =
    if nat_lt 0 waits.bus
    then held (reasons.For Buses) d.at.end (holders.Bus (d.at.end - 1))
    else hold_start older d waits

-- what holds an event of a step with these waits
abbrev pub hold_of : Event → List Done → Done → Waits → Hold
hold_of events.Issue older d waits = hold_issue older d waits
hold_of events.Address older d waits = hold_address older d waits
hold_of events.Start older d waits = hold_start older d waits
hold_of events.Finish older d waits = hold_start older d waits
hold_of events.End older d waits = hold_end older d waits
