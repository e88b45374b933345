-- A run's stalls with bars: the cycles in which instructions wait for each part, and for what is no part, and those of
-- them that lie on the run's path.
use Rattle.std.specs.Prelude.{ℕ, ◌-◌, List, [], ◌∷◌, ◌++◌, codes, map}
use Rattle.std.specs.Fmt.{decimal}
use Rattle.std.specs.List.{flat_map}
use Rattle.tomex_config.specs.Configuration.{Configuration}
use Rattle.tomex_config.specs.Cost.{all_pools}
use Rattle.tomex_html.specs.Html.{table_end, td}
use Rattle.tomex_timing.specs.Needs.{need_of}
use Rattle.tomex_config.specs.Cost.{all_units}
use Rattle.tomex_config.specs.Parts.{count_of}
use Rattle.tomex_timing.specs.declared.needs.Needs.{Needs}
use Rattle.tomex_config.specs.declared.part.Part.{Part}
use Rattle.tomex_config.specs.declared.part.Part.TheVariants.{Stations, Units, Buses, Width}
use Rattle.tomex_path.specs.declared.link.Link.{Link}
use Rattle.tomex_path.specs.declared.reason.Reason.{Reason}
use Rattle.tomex_path.specs.declared.reason.Reason.TheVariants.{For, Branch, Operand, Address, Memory}
use Rattle.tomex_path_views.specs.ByReason.{links_with}
use Rattle.tomex_path_views.specs.Shares.{share_of}
use Rattle.tomex_run_views.specs.StallsReport.{name_of_part}
use Rattle.tomex_html.specs.Tables.{number_cell, table_head, table_row}
use Rattle.tomex_page.specs.Bars.{cycle_cells, drain_cells}

-- a line above some others
unfoldable pub group : List ℕ → List ℕ
group text = codes "<tr><th scope=\"rowgroup\" colspan=\"6\">" ++ (text ++ codes "</th></tr>\n")

-- the stalls of this name in the report of a path: how long the steps of its links had waited for the reason
abbrev pub on_path : List Link → Reason → ℕ
on_path path reason = (share_of (links_with reason path)).waits

-- the cells of something that is no part, and has no count
unfoldable pub cause_cells : Needs → List Link → Reason → ℕ → List ℕ
cause_cells needs path reason n = td [] ++ (td [] ++ cycle_cells n (on_path path reason) needs.total)

unfoldable pub cause_row : Needs → List Link → Reason → List ℕ → ℕ → List ℕ
cause_row needs path reason name n = table_row name (cause_cells needs path reason n)

-- the line of the cycles after the last issue
unfoldable pub drain_row : Needs → List ℕ
drain_row needs = table_row (codes "drain") (drain_cells (needs.total - needs.last_issue) needs.total)

-- the cells of a part: how many there are, and the most in use at once
unfoldable pub part_cells : Configuration → Needs → List Link → Part → List ℕ
part_cells config needs path part =
    number_cell (count_of config part) ++ (number_cell (need_of needs part).peak
    ++ cycle_cells (need_of needs part).stalls (on_path path (For part)) needs.total)

unfoldable pub stall_row : Configuration → Needs → List Link → Part → List ℕ
stall_row config needs path part = table_row (name_of_part part) (part_cells config needs path part)

unfoldable pub pool_parts : List Part
pool_parts = map Stations all_pools

unfoldable pub unit_parts : List Part
unit_parts = map Units all_units

-- the causes of waits before the issue, one at a time: together with the first cycle these are all cycles of the run
unfoldable pub before_issue : Configuration → Needs → List Link → List ℕ
before_issue config needs path =
    group (codes "Before an issue: these and 1 add up to all cycles")
    ++ (cause_row needs path Branch (codes "branch") needs.branch
    ++ (stall_row config needs path Width ++ (flat_map (stall_row config needs path) pool_parts ++ drain_row needs)))

-- the causes of waits in stations
unfoldable pub after_issue : Configuration → Needs → List Link → List ℕ
after_issue config needs path =
    group (codes "After it: of all instructions together")
    ++ (cause_row needs path Operand (codes "operand") needs.operand
    ++ (cause_row needs path Address (codes "address") needs.address
    ++ (cause_row needs path Memory (codes "memory") needs.memory
    ++ (flat_map (stall_row config needs path) unit_parts ++ stall_row config needs path Buses))))

abbrev pub stall_names : List (List ℕ)
stall_names =
    codes "Stalls" ∷ codes "Count" ∷ codes "Peak" ∷ codes "Cycles" ∷ codes "On path" ∷ codes "of all cycles" ∷ []

unfoldable pub stalls_caption : List ℕ → ℕ → ℕ → List ℕ
stalls_caption name total floor =
    name ++ (codes ": " ++ (decimal total ++ (codes " cycles, floor " ++ decimal floor)))

-- the table of a run with these needs, this path and this floor
unfoldable pub stalls_table : Configuration → Needs → List Link → ℕ → List ℕ → List ℕ
stalls_table config needs path floor name =
    table_head (codes " class=\"a t\"") (stalls_caption name needs.total floor) stall_names
    ++ (before_issue config needs path ++ (after_issue config needs path ++ table_end))
