-- A view to be filled in: what the view with its cells full has, but each of its cells is empty.
use Rattle.std.specs.Prelude.{ℕ, if◌then◌else◌, List, [], ◌++◌, codes}
use Rattle.std.specs.List.{flat_map, range_with_len}
use Rattle.std.specs.Fmt.{decimal}
use Rattle.tomex_rvdec.specs.Text.{instr_text}
use Rattle.tomex_rvdec.specs.declared.pool.PoolId.{PoolId}
use Rattle.tomex_config.specs.Configuration.{Configuration, stations_of}
use Rattle.tomex_html.specs.Html.{table_end}
use Rattle.tomex_frames.specs.Constants.{station_head, status_head}
use Rattle.tomex_frames.specs.Events.{all_events, name_of_event}
use Rattle.tomex_frames.specs.Stations.{all_pools}
use Rattle.tomex_frames.specs.Status.{listed_cycles}
use Rattle.tomex_frames.specs.declared.events.Event.{Event}
use Rattle.tomex_snapshots.specs.Entries.{is_listed_in, tag_text}
use Rattle.tomex_snapshots.specs.declared.entries.Entry.{Entry}
use Rattle.tomex_snapshots.specs.declared.entries.Span.{Span}

-- an event, however often it happens
unfoldable pub blank_event : Event → List ℕ
blank_event event = codes "<div><dt>" ++ (name_of_event event ++ codes "</dt><dd></dd></div>\n")

unfoldable pub blank_events : List ℕ
blank_events = codes "<dl class=\"e\">\n" ++ (flat_map blank_event all_events ++ codes "</dl>\n")

-- the cells after an instruction, and those after a station
abbrev pub six_cells : List ℕ
six_cells = codes "<td></td><td></td><td></td><td></td><td></td><td></td>"

abbrev pub seven_cells : List ℕ
seven_cells = codes "<td></td><td></td><td></td><td></td><td></td><td></td><td></td>"

unfoldable pub blank_step : Entry → List ℕ
blank_step e =
    (codes "<tr><td>" ++ (decimal e.number ++ (codes "</td><th scope=\"row\">" ++ (instr_text e.step.instr
    ++ codes "</th>")))) ++ (six_cells ++ codes "</tr>\n")

abbrev pub blank_step_if : Span → Entry → List ℕ
blank_step_if span e = if is_listed_in span e then blank_step e else []

-- the instructions that the view lists
unfoldable pub blank_status : Span → List Entry → ℕ → List ℕ
blank_status page es t = status_head ++ (flat_map (blank_step_if (listed_cycles page es t)) es ++ table_end)

unfoldable pub blank_station : PoolId → ℕ → List ℕ
blank_station pool number =
    (codes "<tr><th scope=\"row\">" ++ (tag_text (record { pool = pool; number = number }) ++ codes "</th>"))
    ++ (seven_cells ++ codes "</tr>\n")

unfoldable pub blank_pool : Configuration → PoolId → List ℕ
blank_pool config pool = flat_map (blank_station pool) (range_with_len 0 (stations_of config pool))

-- all stations that the machine has
unfoldable pub blank_stations : Configuration → List ℕ
blank_stations config = station_head ++ (flat_map (blank_pool config) all_pools ++ table_end)

unfoldable pub blank_register : ℕ → List ℕ
blank_register r = codes "<div><dt>x" ++ (decimal r ++ codes "</dt><dd></dd></div>\n")

-- x1 to x31
unfoldable pub blank_registers : List ℕ
blank_registers =
    codes "<div class=\"q\"><h3>Register status (Qi)</h3>\n<dl class=\"r\">\n"
    ++ (flat_map blank_register (range_with_len 1 31) ++ codes "</dl></div>\n")
