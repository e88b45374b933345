-- The cells of an instruction's row after a cycle.
use Rattle.std.specs.Prelude.{ℕ, ◌+◌, ◌-◌, ◌==◌, nat_le, nat_lt, false, ◌&&◌, if◌then◌else◌, List, [], ◌++◌}
use Rattle.std.specs.Prelude.{codes, is_some, Option, Some, None}
use Rattle.std.specs.Fmt.{decimal}
use Rattle.tomex_rvexec.specs.Steps.{step_dest}
use Rattle.tomex_timing.specs.declared.need.Waits.{Waits}
use Rattle.tomex_timing.specs.declared.tables.Tag.{Tag}
use Rattle.tomex_run_views.specs.Chart.{stage_in}
use Rattle.tomex_run_views.specs.declared.stage.Stage.{Stage}
use Rattle.tomex_run_views.specs.declared.stage.Stage.TheVariants as stages
use Rattle.tomex_html.specs.Html.{cell}
use Rattle.tomex_snapshots.specs.Entries.{has_unit, name_text, station_of}
use Rattle.tomex_frames.specs.declared.cells.Cell.{Cell}
use Rattle.tomex_frames.specs.declared.cells.Content.{Content}
use Rattle.tomex_frames.specs.declared.cells.Content.TheVariants.{Nothing, NotUsed, Station, Cycle, Since, Took}
use Rattle.tomex_frames.specs.declared.doing.Cause.{Cause}
use Rattle.tomex_frames.specs.declared.doing.Cause.TheVariants as causes
use Rattle.tomex_frames.specs.declared.doing.Doing.{Doing}
use Rattle.tomex_frames.specs.declared.doing.Doing.TheVariants.{Issues, Computes, Executes, Writes, Waits as WaitsFor}
use Rattle.tomex_snapshots.specs.declared.entries.Entry.{Entry}

-- the first and the last cycle of an execution have a dash between them
abbrev pub content_text : Content → List ℕ
content_text Nothing = []
content_text NotUsed = codes "-"
content_text (Station tag) = name_text (Some tag)
content_text (Cycle t) = decimal t
content_text (Since start) = decimal start ++ codes "&#8211;"
content_text (Took start finish) = decimal start ++ (codes "&#8211;" ++ decimal finish)

abbrev pub cell_text : Cell → List ℕ
cell_text c = cell c.new (content_text c.content)

-- a cycle, after it has been reached
abbrev pub cycle_by : ℕ → ℕ → Content
cycle_by t n = if nat_le n t then Cycle n else Nothing

-- the cell of what a step doesn't have, from its issue on
abbrev pub unused_cell : ℕ → Entry → Cell
unused_cell t e = record { new = false; content = if nat_le e.at.issue t then NotUsed else Nothing }

abbrev pub station_content : Option Tag → Content
station_content None = Nothing
station_content (Some tag) = Station tag

abbrev pub station_cell : ℕ → Entry → Cell
station_cell t e = record {
  new = e.at.issue == t && is_some (station_of e);
  content = if nat_le e.at.issue t then station_content (station_of e) else Nothing;
}

abbrev pub issue_cell : ℕ → Entry → Cell
issue_cell t e = record { new = e.at.issue == t; content = cycle_by t e.at.issue }

-- loads and stores have an address cycle
abbrev pub address_from : ℕ → Entry → Option ℕ → Cell
address_from t e None = unused_cell t e
address_from t e (Some a) = record { new = a == t; content = cycle_by t a }

abbrev pub address_cell : ℕ → Entry → Cell
address_cell t e = address_from t e e.at.address

abbrev pub took : ℕ → ℕ → Content
took start finish = if start == finish then Cycle start else Took start finish

abbrev pub execute_cell : ℕ → Entry → Cell
execute_cell t e =
    if has_unit e then (if nat_lt t e.at.start then record { new = false; content = Nothing }
    else (if nat_lt t e.at.finish then record { new = e.at.start == t; content = Since e.at.start }
    else record { new = e.at.finish == t; content = took e.at.start e.at.finish }))
    else unused_cell t e

abbrev pub write_cell : ℕ → Entry → Cell
write_cell t e =
    if has_unit e && is_some (step_dest e.step)
    then record { new = e.at.end == t; content = cycle_by t e.at.end }
    else unused_cell t e

-- the cause that the k-th cycle of a step's waits for its start, from 0, is charged to: causes are in this order
abbrev pub start_cause : Waits → ℕ → Cause
start_cause w k =
    if nat_lt k w.operand then causes.Operand
    else (if nat_lt (k - w.operand) w.address then causes.Address
    else (if nat_lt (k - w.operand - w.address) w.memory then causes.Memory
    else causes.Unit))

-- the same for its waits to issue
abbrev pub issue_cause : Waits → ℕ → Cause
issue_cause w k =
    if nat_lt k w.branch then causes.Branch
    else (if nat_lt (k - w.branch) w.width then causes.Width
    else causes.Station)

abbrev pub doing_of : ℕ → Entry → Option Stage → Option Doing
doing_of t e (Some stages.Issue) = Some Issues
doing_of t e (Some stages.Address) = Some Computes
doing_of t e (Some stages.Execute) = Some Executes
doing_of t e (Some stages.Write) = Some Writes
doing_of t e (Some stages.BusWait) = Some (WaitsFor causes.Bus)
doing_of t e (Some stages.Wait) = Some (WaitsFor (start_cause e.waits (t - (e.at.issue + 1))))
doing_of t e None =
    if nat_le e.from t && nat_lt t e.at.issue then Some (WaitsFor (issue_cause e.waits (t - e.from))) else None

-- the activity of a step in a cycle, if any
unfoldable pub doing_in : ℕ → Entry → Option Doing
doing_in t e = doing_of t e (stage_in e.at t)

abbrev pub cause_text : Cause → List ℕ
cause_text causes.Branch = codes "branch"
cause_text causes.Width = codes "width"
cause_text causes.Station = codes "station"
cause_text causes.Operand = codes "operand"
cause_text causes.Address = codes "address"
cause_text causes.Memory = codes "memory"
cause_text causes.Unit = codes "unit"
cause_text causes.Bus = codes "bus"

abbrev pub doing_text : Option Doing → List ℕ
doing_text None = []
doing_text (Some Issues) = codes "issues"
doing_text (Some Computes) = codes "address"
doing_text (Some Executes) = codes "executes"
doing_text (Some Writes) = codes "writes"
doing_text (Some (WaitsFor cause)) = codes "waits: " ++ cause_text cause
