-- The path of a run: from the end of the first step that ends last back to the first cycle, a link for each step that
-- holds the one after it.
use Rattle.std.specs.Prelude.{ℕ, ◌+◌, nat_le, ◌&&◌, if◌then◌else◌, List, [], ◌∷◌, length, reverse, Option, None}
use Rattle.tomex_rvdec.specs.declared.pool.UnitId.{UnitId}
use Rattle.tomex_rvexec.specs.Steps.{step_unit}
use Rattle.tomex_config.specs.Configuration.{Configuration}
use Rattle.tomex_config.specs.declared.part.Part.TheVariants.{Stations, Units, Buses, Width}
use Rattle.tomex_timing.specs.declared.need.Waits.{Waits}
use Rattle.tomex_timing.specs.declared.times.Done.{Done}
use Rattle.tomex_timing.specs.Needs.{waits_of}
use Rattle.tomex_path.specs.declared.event.Holder.{Holder}
use Rattle.tomex_path.specs.declared.event.Holder.TheVariants.{Last}
use Rattle.tomex_path.specs.declared.hold.Hold.{Hold}
use Rattle.tomex_path.specs.declared.link.Link.{Link}
use Rattle.tomex_path.specs.declared.reason.Reason.{Reason}
use Rattle.tomex_path.specs.declared.reason.Reason.TheVariants as reasons
use Rattle.tomex_path.specs.Holds.{cycle_at, event_of, hold_of, passes}

-- how long a step waited for a reason
abbrev pub waited : Waits → Reason → ℕ
waited waits (reasons.For (Stations pool)) = waits.station
waited waits (reasons.For (Units unit)) = waits.unit
waited waits (reasons.For Buses) = waits.bus
waited waits (reasons.For Width) = waits.width
waited waits reasons.Branch = waits.branch
waited waits reasons.Operand = waits.operand
waited waits reasons.Address = waits.address
waited waits reasons.Memory = waits.memory
waited waits reasons.Order = 0

-- what holds the event by which a step holds another
abbrev pub hold_by : Configuration → Holder → List Done → Done → Hold
hold_by config by older d = hold_of (event_of by) older d (waits_of config older d)

-- the unit that a step is in from its start to its finish within some cycles, if it is
abbrev pub operation_in : Done → ℕ → ℕ → Option UnitId
operation_in d from to = if nat_le from d.at.start && nat_le d.at.finish to then step_unit d.step else None

-- A link is one step: why it begins no earlier, how long the step waited for that, and its cycles, from the one after
-- what holds it to the event by which it holds the next link, with its operation if that lies within them.
abbrev pub link_of : Configuration → Holder → List Done → Done → Link
link_of config by older d =
    let hold = hold_by config by older d in
    record {
      step = length older + 1;
      reason = hold.reason;
      waits = waited (waits_of config older d) hold.reason;
      from = hold.from;
      to = cycle_at (event_of by) d.at;
      operation = operation_in d hold.from (cycle_at (event_of by) d.at);
    }

-- the links from the first step down the history that passes, back to the first cycle
abbrev pub links : Configuration → Holder → List Done → List Link
links config by [] = []
links config by (d ∷ older) =
    if passes by older d
    then link_of config by older d ∷ links config (hold_by config by older d).by older
    else links config by older

-- the path, from the first cycle on: the youngest step that ends later than each older one is the first that ends last
abbrev pub path_of : Configuration → List Done → List Link
path_of config h = reverse (links config Last h)
