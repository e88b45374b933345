-- The front as a table: of a row's parts only those in which rows of the study differ.
use Rattle.std.specs.Prelude.{ℕ, ◌-◌, ◌*◌, ◌/◌, ◌==◌, nat_le, nat_lt, Bool, false, not, if◌then◌else◌, List}
use Rattle.std.specs.Prelude.{[], ◌∷◌, ◌++◌, codes, length, map, slice_index_or, Option, Some, None}
use Rattle.std.specs.Fmt.{decimal}
use Rattle.std.specs.List.{flat_map, list_any}
use Rattle.tomex_rvdec.specs.Places.{name_of_pool, name_of_unit}
use Rattle.tomex_rvdec.specs.declared.pool.PoolId.TheVariants as pools
use Rattle.tomex_rvdec.specs.declared.pool.UnitId.TheVariants as units
use Rattle.tomex_config.specs.Configuration.{Configuration}
use Rattle.tomex_study.specs.Cycles.{total_at}
use Rattle.tomex_study.specs.StudyFront.{front_of_study}
use Rattle.tomex_study.specs.Program.{Workload}
use Rattle.tomex_study.specs.Study.{DesignSpace, config_at}
use Rattle.tomex_pareto.specs.Hull.{hull_of}
use Rattle.tomex_pareto.specs.declared.front_row.FrontRow.{FrontRow}
use Rattle.tomex_config.specs.Parts.{count_of}
use Rattle.tomex_config.specs.declared.part.Part.TheVariants.{Stations, Units, Buses, Width}
use Rattle.tomex_layout.specs.Hundredths.{hundredths}
use Rattle.tomex_layout.specs.Table.{TableColumn, table_of}
use Rattle.tomex_config.specs.Settings.{all_settings, differs, setting_of}
use Rattle.tomex_layout.specs.Lists.{name_of_setting}
use Rattle.tomex_front_views.specs.declared.table.heading.Heading.{Heading}
use Rattle.tomex_front_views.specs.declared.table.heading.Heading.TheVariants.{Row as OfRow, Cost, Cycles}
use Rattle.tomex_front_views.specs.declared.table.heading.Heading.TheVariants.{Setting as OfSetting}
use Rattle.tomex_config.specs.declared.setting.Setting.{Setting}
use Rattle.tomex_config.specs.declared.setting.Setting.TheVariants.{Count, Latency}

abbrev pub name_of_heading : Heading → List ℕ
name_of_heading OfRow = codes "row"
name_of_heading Cost = codes "cost"
name_of_heading Cycles = codes "cycles"
name_of_heading (OfSetting setting) = name_of_setting setting

-- the number under a heading for a front row
unfoldable pub number_under : DesignSpace → Heading → FrontRow → ℕ
number_under s OfRow r = r.row
number_under s Cost r = r.cost
number_under s Cycles r = r.cycles
number_under s (OfSetting setting) r = setting_of (config_at s r.row) setting

unfoldable pub heading_column : DesignSpace → List FrontRow → Heading → TableColumn
heading_column s front heading =
    record { name = name_of_heading heading; entries = map (λ r. decimal (number_under s heading r)) front }

-- the cycles that a row saves over the row before, for 1 of extra cost
abbrev pub rate_after : Option FrontRow → FrontRow → List ℕ
rate_after None r = codes "-"
rate_after (Some before) r =
    if nat_le r.cost before.cost then codes "-"
    else hundredths ((before.cycles - r.cycles) * 100 / (r.cost - before.cost))

-- the rate of each row
abbrev pub rates_after : Option FrontRow → List FrontRow → List (List ℕ)
rates_after before [] = []
rates_after before (r ∷ rows) = rate_after before r ∷ rates_after (Some r) rows

unfoldable pub rate_column : List FrontRow → TableColumn
rate_column front = record { name = codes "rate"; entries = rates_after None front }

-- the column of a setting, if rows of the study differ in it
unfoldable pub setting_columns : DesignSpace → List FrontRow → Setting → List TableColumn
setting_columns s front setting =
    if differs s.rows setting then heading_column s front (OfSetting setting) ∷ [] else []

-- the columns that are the rows' own
abbrev pub own_columns : DesignSpace → List FrontRow → List TableColumn
own_columns s front =
    map (heading_column s front) (OfRow ∷ Cost ∷ Cycles ∷ [])
    ++ rate_column front ∷ flat_map (setting_columns s front) all_settings

-- a program's own cycles on each row
unfoldable pub program_column : DesignSpace → List FrontRow → Workload → TableColumn
program_column s front p = record { name = p.name; entries = map (λ r. decimal (total_at s p r.row)) front }

-- a column for each program if there are several
abbrev pub program_columns : DesignSpace → List FrontRow → List TableColumn
program_columns s front = if nat_lt 1 (length s.programs) then map (program_column s front) s.programs else []

-- the table of some rows of a study
unfoldable pub rows_table_of : DesignSpace → List FrontRow → List ℕ
rows_table_of s rows = table_of (length rows) (own_columns s rows ++ program_columns s rows)

-- the table of a study's front
abbrev pub front_table_of : DesignSpace → List ℕ
front_table_of s = rows_table_of s (front_of_study s)

-- the table of those rows of the front that are on its hull
abbrev pub hull_table_of : DesignSpace → List ℕ
hull_table_of s = rows_table_of s (hull_of (front_of_study s))
