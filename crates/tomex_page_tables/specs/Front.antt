-- The front as a table, in which a row's differences are from the row above.
use Rattle.std.specs.Prelude.{ℕ, ◌==◌, nat_lt, Bool, false, not, if◌then◌else◌, List, [], ◌∷◌, ◌++◌, codes, length}
use Rattle.std.specs.Prelude.{Option, Some, None}
use Rattle.std.specs.Fmt.{decimal}
use Rattle.std.specs.List.{filter, flat_map}
use Rattle.tomex_html.specs.Html.{cell, table_end, td}
use Rattle.tomex_pareto.specs.Front.{is_on}
use Rattle.tomex_pareto.specs.declared.front_row.FrontRow.{FrontRow}
use Rattle.tomex_study.specs.Cycles.{cycles_of_run}
use Rattle.tomex_study.specs.Program.{Workload}
use Rattle.tomex_study.specs.Study.{DesignSpace}
use Rattle.tomex_config.specs.Settings.{all_settings, differs, setting_of}
use Rattle.tomex_layout.specs.Lists.{name_of_setting}
use Rattle.tomex_front_views.specs.FrontTable.{rate_after}
use Rattle.tomex_front_views.specs.LinkedPlot.{link_to}
use Rattle.tomex_config.specs.declared.setting.Setting.{Setting}
use Rattle.tomex_layout.specs.Differences.{percent, signed_difference}
use Rattle.tomex_html.specs.Tables.{column_head, head_end, number_cell, table_start}
use Rattle.tomex_page_tables.specs.Shown.{row_of}
use Rattle.tomex_page_tables.specs.declared.shown.ShownRow.{ShownRow}

-- the settings in which rows of the study differ
unfoldable pub settings_of : DesignSpace → List Setting
settings_of s = filter (differs s.rows) all_settings

-- the programs whose own cycles are shown: all, if there are several
unfoldable pub own_programs : DesignSpace → List Workload
own_programs s = if nat_lt 1 (length s.programs) then s.programs else []

-- the cost that a row has more than the one before; the first has none before it
abbrev pub more_cost : Option ShownRow → ShownRow → List ℕ
more_cost None r = []
more_cost (Some before) r = signed_difference before.row.cost r.row.cost

abbrev pub more_cycles : Option ShownRow → ShownRow → List ℕ
more_cycles None r = []
more_cycles (Some before) r = signed_difference before.row.cycles r.row.cycles

-- the same in percent of the cycles of the row before
abbrev pub more_percent : Option ShownRow → ShownRow → List ℕ
more_percent None r = []
more_percent (Some before) r = percent before.row.cycles r.row.cycles

-- the row before has another value
abbrev pub sets_anew : Option ShownRow → ShownRow → Setting → Bool
sets_anew None r setting = false
sets_anew (Some before) r setting = not (setting_of before.config setting == setting_of r.config setting)

unfoldable pub setting_cell : Option ShownRow → ShownRow → Setting → List ℕ
setting_cell before r setting = cell (sets_anew before r setting) (decimal (setting_of r.config setting))

-- a program's own cycles on the row
unfoldable pub total_cell : ShownRow → Workload → List ℕ
total_cell r p = number_cell (cycles_of_run r.config p)

unfoldable pub own_cells : Option ShownRow → ShownRow → List ℕ
own_cells before r =
    number_cell r.row.cost ++ (td (more_cost before r) ++ (number_cell r.row.cycles
    ++ (td (more_cycles before r) ++ td (more_percent before r))))

-- the rate of the row of this number after the one before it; nothing if it is none of these
abbrev pub rate_in : Option FrontRow → List FrontRow → ℕ → List ℕ
rate_in before [] number = []
rate_in before (r ∷ rows) number = if r.row == number then rate_after before r else rate_in (Some r) rows number

-- that of a row of the hull
unfoldable pub rate_cell : List FrontRow → ShownRow → List ℕ
rate_cell hull r = td (rate_in None hull r.row.row)

unfoldable pub front_cells : DesignSpace → List FrontRow → Option ShownRow → ShownRow → List ℕ
front_cells s hull before r =
    own_cells before r ++ (rate_cell hull r
    ++ (flat_map (setting_cell before r) (settings_of s) ++ flat_map (total_cell r) (own_programs s)))

-- a row's number, which is a link if the row is shown
unfoldable pub row_text : List FrontRow → ℕ → List ℕ
row_text shown row = if is_on shown row then link_to row (decimal row) else decimal row

-- the mark of what is of a row on the hull
abbrev pub hull_mark : List FrontRow → ℕ → List ℕ
hull_mark hull row = if is_on hull row then codes " class=\"h\"" else []

-- the start of a row, whose head leads to the row's view
unfoldable pub front_row_start : List FrontRow → ℕ → List ℕ
front_row_start hull row =
    (codes "<tr" ++ (hull_mark hull row ++ codes "><th scope=\"row\">"))
    ++ (link_to row (decimal row) ++ codes "</th>")

unfoldable pub front_row : DesignSpace → List FrontRow → Option ShownRow → ShownRow → List ℕ
front_row s hull before r =
    front_row_start hull r.row.row ++ (front_cells s hull before r ++ codes "</tr>\n")

-- the rows after one, if there is one
abbrev pub front_rows : DesignSpace → List FrontRow → Option ShownRow → List FrontRow → List ℕ
front_rows s hull before [] = []
front_rows s hull before (r ∷ rows) =
    front_row s hull before (row_of s r) ++ front_rows s hull (Some (row_of s r)) rows

abbrev pub own_names : List (List ℕ)
own_names =
    codes "row" ∷ codes "cost" ∷ codes "more" ∷ codes "cycles" ∷ codes "more" ∷ codes "%" ∷ codes "rate" ∷ []

-- the names of the columns
unfoldable pub column_heads : DesignSpace → List ℕ
column_heads s =
    flat_map column_head own_names ++ (flat_map (λ setting. column_head (name_of_setting setting)) (settings_of s)
    ++ flat_map (λ p. column_head p.name) (own_programs s))

abbrev pub front_caption : List ℕ
front_caption = codes "The front, and what each row has more than the one above"

-- the table of these rows of the front, given those on its hull
unfoldable pub front_table : DesignSpace → List FrontRow → List FrontRow → List ℕ
front_table s hull shown =
    table_start (codes " class=\"a\" id=\"front\"") front_caption ++ (column_heads s ++ (head_end
    ++ (front_rows s hull None shown ++ table_end)))
