-- The front report: a record for each program of each front row.
use Rattle.std.specs.Prelude.{ℕ, suc, ◌==◌, Bool, true, false, List, [], ◌∷◌, ◌++◌, codes}
use Rattle.std.specs.Prelude.{map, take, drop, if◌then◌else◌, slice_index_or}
use Rattle.std.specs.List.{flat_map}
use Rattle.std.specs.Fmt.{decimal}
use Rattle.tomex_rvdec.specs.declared.pool.UnitId.{UnitId}
use Rattle.tomex_rvexec.specs.Machine.{Outcome, Ends, step_of}
use Rattle.tomex_rvdec.specs.Text.{hex8}
use Rattle.tomex_rvexec.specs.Texts.{hex2, name_of_end}
use Rattle.tomex_config.specs.Configuration.{Configuration, option_of, plain}
use Rattle.tomex_config.specs.Cost.{all_pools, all_units}
use Rattle.tomex_config.specs.Configuration.{stations_of}
use Rattle.tomex_timing.specs.Run.{total}
use Rattle.tomex_study.specs.Program.{Workload}
use Rattle.tomex_study.specs.Study.{DesignSpace}
use Rattle.tomex_study.specs.StudyFront.{front_of_study}
use Rattle.tomex_pareto.specs.declared.front_row.FrontRow.{FrontRow}
use Rattle.tomex_study.specs.declared.watch.WatchRange.{WatchRange}
use Rattle.tomex_layout.specs.Csv.{record_text}
use Rattle.tomex_texts.specs.declared.ends.ProgramEnd.{ProgramEnd}
use Rattle.tomex_texts.specs.Ends.{bytes_at, count_of, last_state}

-- a field that is only in reports that show widths and weights
abbrev pub if_wide : {X : Type 0} → Bool → X → List X
if_wide true field = field ∷ []
if_wide false field = []

-- the columns of a configuration's number, cost, cycles and stations
abbrev pub station_columns : List (List ℕ)
station_columns =
    codes "row" ∷ codes "cost" ∷ codes "cycles" ∷ codes "alu" ∷ codes "mul" ∷ codes "div" ∷ codes "load"
    ∷ codes "store" ∷ codes "bru" ∷ []

-- the columns of a configuration's units
abbrev pub unit_columns : List (List ℕ)
unit_columns =
    codes "alu_units" ∷ codes "alu_latency" ∷ codes "mul_units" ∷ codes "mul_latency" ∷ codes "div_units"
    ∷ codes "div_latency"
    ∷ codes "mem_units" ∷ codes "mem_latency" ∷ codes "bru_units" ∷ codes "bru_latency" ∷ []

-- the columns of a configuration
abbrev pub row_columns : Bool → List (List ℕ)
row_columns wide = station_columns ++ (unit_columns ++ (codes "buses" ∷ if_wide wide (codes "width")))

-- the columns of a program
abbrev pub program_columns : Bool → List (List ℕ)
program_columns wide =
    codes "program"
    ∷ (if_wide wide (codes "weight")
    ++ (codes "steps" ∷ codes "program_cycles" ∷ codes "end" ∷ codes "regs" ∷ codes "watch" ∷ []))

-- a unit option's number of units and latency
abbrev pub unit_numbers : Configuration → UnitId → List ℕ
unit_numbers config unit = (option_of config unit).units ∷ (option_of config unit).latency ∷ []

-- a configuration's number, cost and cycles, and its parts
unfoldable pub row_numbers : Bool → FrontRow → Configuration → List ℕ
row_numbers wide r config =
    (r.row ∷ r.cost ∷ r.cycles ∷ [])
    ++ (map (stations_of config) all_pools
    ++ (flat_map (unit_numbers config) all_units ++ (config.buses ∷ if_wide wide config.width)))

abbrev pub row_fields : Bool → FrontRow → Configuration → List (List ℕ)
row_fields wide r config = map decimal (row_numbers wide r config)

-- texts joined by one space, or `-` if there is none
abbrev pub join_texts : List (List ℕ) → List ℕ
join_texts [] = codes "-"
join_texts (x ∷ xs) = x ++ flat_map (λ y. 32 ∷ y) xs

-- the registers from this one on that aren't zero, as `x3=00000023`
abbrev pub nonzero_from : ℕ → List ℕ → List (List ℕ)
nonzero_from r [] = []
nonzero_from r (v ∷ vs) =
    if v == 0 then nonzero_from (suc r) vs
    else (codes "x" ++ (decimal r ++ (codes "=" ++ hex8 v))) ∷ nonzero_from (suc r) vs

-- a range and its bytes, as `00000100:00030000`
abbrev pub watch_text : ℕ → List ℕ → WatchRange → List ℕ
watch_text base memory range = hex8 range.address ++ (codes ":" ++ flat_map hex2 (bytes_at base memory range))

abbrev pub end_text : Outcome → List ℕ
end_text (Ends kind) = name_of_end kind
end_text _ = []

-- each range with its own of these bytes, range by range
abbrev pub watch_texts : List WatchRange → List ℕ → List (List ℕ)
watch_texts [] bytes = []
watch_texts (range ∷ ranges) bytes =
    (hex8 range.address ++ (codes ":" ++ flat_map hex2 (take range.length bytes)))
    ∷ watch_texts ranges (drop range.length bytes)

-- the fields of the end of a program that watches these ranges
abbrev pub end_fields : {A : Type 0} → List WatchRange → ProgramEnd A → List (List ℕ)
end_fields ranges e =
    decimal e.steps ∷ decimal e.total ∷ name_of_end e.kind ∷ join_texts (nonzero_from 0 e.regs)
    ∷ join_texts (watch_texts ranges e.watched.items) ∷ []

-- the fields of a program on a configuration
unfoldable pub program_fields : Bool → Configuration → Workload → List (List ℕ)
program_fields wide config p =
    let s = last_state p.image in
    p.name
    ∷ (if_wide wide (decimal p.weight)
    ++ (decimal (count_of p.image) ∷ decimal (total config p.image) ∷ end_text (step_of s)
    ∷ join_texts (nonzero_from 0 s.regs) ∷ join_texts (map (watch_text p.image.window.base s.memory) p.watch) ∷ []))

-- a program's record on a front row
abbrev pub program_record : Bool → FrontRow → Configuration → Workload → List ℕ
program_record wide r config p = record_text (row_fields wide r config ++ program_fields wide config p)

-- a front row's records, one for each program of the study
abbrev pub records_of : DesignSpace → FrontRow → List ℕ
records_of s r = let config = slice_index_or s.rows r.row plain in flat_map (program_record s.wide r config) s.programs

-- the report of a study: the header, and then the front's records in order
unfoldable pub report_of : DesignSpace → List ℕ
report_of s = record_text (row_columns s.wide ++ program_columns s.wide) ++ flat_map (records_of s) (front_of_study s)
