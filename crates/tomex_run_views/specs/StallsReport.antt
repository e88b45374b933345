-- The stalls report of a run: a record for each part of the machine, one for each thing else that steps wait for, and
-- the run's floors.
use Rattle.std.specs.Prelude.{◌≡◌, ℕ, ◌-◌, List, [], ◌∷◌, ◌++◌, codes}
use Rattle.std.specs.List.{flat_map}
use Rattle.std.specs.Fmt.{decimal}
use Rattle.tomex_rvdec.specs.Places.{name_of_pool, name_of_unit}
use Rattle.tomex_rvdec.specs.declared.pool.UnitId.{UnitId}
use Rattle.tomex_rvexec.specs.declared.step.Step.{Step}
use Rattle.tomex_config.specs.Configuration.{Configuration}
use Rattle.tomex_timing.specs.Needs.{AreNeeds, need_of}
use Rattle.tomex_config.specs.Parts.{all_parts, count_of}
use Rattle.tomex_timing.specs.Search.{history}
use Rattle.tomex_timing.specs.declared.needs.Needs.{Needs}
use Rattle.tomex_config.specs.declared.part.Part.{Part}
use Rattle.tomex_config.specs.declared.part.Part.TheVariants.{Stations, Units, Buses, Width}
use Rattle.tomex_floor.specs.Floor.{floor_of}
use Rattle.tomex_config.specs.Configuration.{latency_of}
use Rattle.tomex_layout.specs.Csv.{record_text}

abbrev pub header : List (List ℕ)
header = codes "part" ∷ codes "count" ∷ codes "peak" ∷ codes "stalls" ∷ []

-- a part's name, which is that of its column in the front report; the parts are listed in the order of those columns
abbrev pub name_of_part : Part → List ℕ
name_of_part (Stations pool) = name_of_pool pool
name_of_part (Units unit) = name_of_unit unit ++ codes "_units"
name_of_part Buses = codes "buses"
name_of_part Width = codes "width"

-- how many of a part there are, how many of it the run takes at once at most, and how long its steps wait for it
abbrev pub part_fields : Configuration → Needs → Part → List (List ℕ)
part_fields config needs part =
    name_of_part part ∷ decimal (count_of config part)
    ∷ decimal (need_of needs part).peak ∷ decimal (need_of needs part).stalls ∷ []

unfoldable pub part_record : Configuration → Needs → Part → List ℕ
part_record config needs part = record_text (part_fields config needs part)

-- cycles that are no part's
unfoldable pub other_record : List ℕ → ℕ → List ℕ
other_record name cycles = record_text (name ∷ codes "-" ∷ codes "-" ∷ decimal cycles ∷ [])

abbrev pub other_records : Needs → List ℕ
other_records needs =
    other_record (codes "branch") needs.branch
    ++ (other_record (codes "operand") needs.operand
    ++ (other_record (codes "address") needs.address
    ++ (other_record (codes "memory") needs.memory
    ++ (other_record (codes "drain") (needs.total - needs.last_issue) ++ other_record (codes "total") needs.total))))

-- the least cycles of the run if at most width steps issue in a cycle
unfoldable pub floor_record : ℕ → ℕ → List ℕ
floor_record width cycles = record_text (codes "floor" ∷ decimal width ∷ codes "-" ∷ decimal cycles ∷ [])

-- a run's floors for the issue widths from 1 to 4
abbrev pub floor_records : (UnitId → ℕ) → List Step → List ℕ
floor_records latency steps =
    floor_record 1 (floor_of latency 1 steps)
    ++ (floor_record 2 (floor_of latency 2 steps)
    ++ (floor_record 3 (floor_of latency 3 steps) ++ floor_record 4 (floor_of latency 4 steps)))

abbrev pub report_of_needs : Configuration → Needs → List Step → List ℕ
report_of_needs config needs steps =
    record_text header
    ++ (flat_map (part_record config needs) all_parts
    ++ (other_records needs ++ floor_records (latency_of config) steps))

-- the text is the report of what a run's steps need on a configuration, with the floors for its latencies
abbrev pub IsStallsReport : Configuration → List Step → List ℕ → Type 0
IsStallsReport config steps text =
    (needs : Needs) × AreNeeds config (history config steps) needs × (text ≡ report_of_needs config needs steps)
