-- The events of a cycle: five entries, always all five, so that nothing below them moves.
use Rattle.std.specs.Prelude.{ℕ, ◌==◌, Bool, ◌&&◌, if◌then◌else◌, List, [], ◌∷◌, ◌++◌, codes, is_some, Option}
use Rattle.std.specs.Prelude.{Some, None}
use Rattle.std.specs.List.{flat_map, list_any}
use Rattle.tomex_rvdec.specs.Text.{hex8, instr_text}
use Rattle.tomex_rvexec.specs.Steps.{address_of, is_number, step_dest}
use Rattle.tomex_rvexec.specs.declared.step.Step.{Step}
use Rattle.tomex_timing.specs.declared.tables.Tag.{Tag}
use Rattle.tomex_snapshots.specs.Entries.{has_unit, name_text, station_of}
use Rattle.tomex_snapshots.specs.Takers.{takers, takers_text}
use Rattle.tomex_snapshots.specs.declared.entries.Entry.{Entry}
use Rattle.tomex_frames.specs.Values.{value_of, value_text}
use Rattle.tomex_frames.specs.declared.events.Event.{Event}
use Rattle.tomex_frames.specs.declared.events.Event.TheVariants.{Issue, Address, Start, Finish, Write}

abbrev pub name_of_event : Event → List ℕ
name_of_event Issue = codes "Issue"
name_of_event Address = codes "Address"
name_of_event Start = codes "Start"
name_of_event Finish = codes "Finish"
name_of_event Write = codes "Write result"

unfoldable pub all_events : List Event
all_events = Issue ∷ Address ∷ Start ∷ Finish ∷ Write ∷ []

-- FENCE, ECALL and EBREAK only issue
abbrev pub happens : Event → ℕ → Entry → Bool
happens Issue t e = e.at.issue == t
happens Address t e = is_number e.at.address t
happens Start t e = has_unit e && e.at.start == t
happens Finish t e = has_unit e && e.at.finish == t
happens Write t e = has_unit e && (is_some (step_dest e.step) && e.at.end == t)

abbrev pub issued_to : Option Tag → List ℕ
issued_to None = []
issued_to (Some tag) = codes " &#8594; " ++ name_text (Some tag)

-- a result that is sent: its station, its value, and what takes it
unfoldable pub sent_text : List Step → List ℕ → ℕ → List Entry → Entry → List ℕ
sent_text steps last t es e =
    name_text (station_of e) ++ (value_text (value_of steps last e)
    ++ (codes " &#8594; " ++ takers_text (takers t es e)))

-- the text of a step to which it happens; `steps` are those of the run, `last` its registers at the end
unfoldable pub item : List Step → List ℕ → ℕ → List Entry → Event → Entry → List ℕ
item steps last t es Issue e = instr_text e.step.instr ++ issued_to (station_of e)
item steps last t es Address e = name_text (station_of e) ++ (codes " A=" ++ hex8 (address_of e.step))
item steps last t es Start e = name_text (station_of e)
item steps last t es Finish e = name_text (station_of e)
item steps last t es Write e = sent_text steps last t es e

unfoldable pub item_if : List Step → List ℕ → ℕ → List Entry → Event → Entry → List ℕ
item_if steps last t es event e =
    if happens event t e then codes "<dd>" ++ (item steps last t es event e ++ codes "</dd>") else []

-- an entry: an item for each step to which it happens, in program order
unfoldable pub items : List Step → List ℕ → ℕ → List Entry → Event → List ℕ
items steps last t es event =
    if list_any (happens event t) es then flat_map (item_if steps last t es event) es else codes "<dd>-</dd>"

unfoldable pub event_text : List Step → List ℕ → ℕ → List Entry → Event → List ℕ
event_text steps last t es event =
    (codes "<div><dt>" ++ (name_of_event event ++ codes "</dt>"))
    ++ (items steps last t es event ++ codes "</div>\n")

unfoldable pub events : List Step → List ℕ → ℕ → List Entry → List ℕ
events steps last t es =
    codes "<dl class=\"e\">\n" ++ (flat_map (event_text steps last t es) all_events ++ codes "</dl>\n")
