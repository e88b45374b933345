-- The machine that a page shows, and links to all cycles of the page.
use Rattle.std.specs.Prelude.{ℕ, ◌+◌, ◌-◌, List, [], ◌∷◌, ◌++◌, codes, map}
use Rattle.std.specs.List.{flat_map, range_with_len}
use Rattle.std.specs.Fmt.{decimal}
use Rattle.tomex_rvdec.specs.declared.pool.UnitId.{UnitId}
use Rattle.tomex_rvdec.specs.declared.pool.UnitId.TheVariants as units
use Rattle.tomex_config.specs.Configuration.{Configuration, option_of, stations_of}
use Rattle.tomex_html.specs.Html.{td}
use Rattle.tomex_animate.specs.Constants.{machine_head}
use Rattle.tomex_frames.specs.Stations.{all_pools}
use Rattle.tomex_snapshots.specs.declared.entries.Span.{Span}

-- the kind of unit that each pool's instructions use: loads and stores share those of memory
unfoldable pub all_kinds : List UnitId
all_kinds = units.Alu ∷ units.Mul ∷ units.Div ∷ units.Mem ∷ units.Mem ∷ units.Bru ∷ []

abbrev pub number_cell : ℕ → List ℕ
number_cell n = td (decimal n)

unfoldable pub machine_row : List ℕ → List ℕ → List ℕ
machine_row name values =
    (codes "<tr><th scope=\"row\">" ++ (name ++ codes "</th>")) ++ (flat_map number_cell values ++ codes "</tr>\n")

unfoldable pub machine_rows : Configuration → List ℕ
machine_rows config =
    machine_row (codes "stations") (map (stations_of config) all_pools)
    ++ (machine_row (codes "units") (map (λ kind. (option_of config kind).units) all_kinds)
    ++ machine_row (codes "latency") (map (λ kind. (option_of config kind).latency) all_kinds))

unfoldable pub shared_text : ℕ → ℕ → List ℕ
shared_text buses width =
    (codes "</tbody></table>\n<p>load and store share the units of memory. Data buses: " ++ decimal buses)
    ++ (codes ". Instructions that issue in a cycle: " ++ (decimal width ++ codes ".</p></div>\n"))

unfoldable pub machine_table : Configuration → List ℕ
machine_table config =
    (codes "<div class=\"w\">" ++ machine_head) ++ (machine_rows config ++ shared_text config.buses config.width)

unfoldable pub index_link : ℕ → List ℕ
index_link t = codes "<a href=\"#c" ++ (decimal t ++ (codes "\">" ++ (decimal t ++ codes "</a>\n")))

-- the cycles of a page
unfoldable pub cycles_of : Span → List ℕ
cycles_of page = range_with_len page.from (page.to + 1 - page.from)

unfoldable pub index : Span → List ℕ
index page =
    codes "<div><h2>Cycles</h2>\n<p class=\"i\">\n" ++ (flat_map index_link (cycles_of page) ++ codes "</p></div>\n")
