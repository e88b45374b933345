-- A study's report as a page: its picture, what was asked, its front, and a view for each row of the front.
use Rattle.std.specs.Prelude.{ℕ, ◌-◌, nat_le, if◌then◌else◌, List, [], ◌∷◌, ◌++◌, codes, length}
use Rattle.std.specs.Prelude.{option_map, slice_get, slice_index_or, Option, Some, None}
use Rattle.std.specs.Fmt.{decimal}
use Rattle.std.specs.List.{flat_map}
use Rattle.tomex_config.specs.Configuration.{Configuration}
use Rattle.tomex_html.specs.Html.{html_name, links, page_end, page_start}
use Rattle.tomex_html.specs.declared.links.Links.{Links}
use Rattle.tomex_pareto.specs.Hull.{hull_of}
use Rattle.tomex_pareto.specs.declared.front_row.FrontRow.{FrontRow}
use Rattle.tomex_study.specs.StudyFront.{front_of_study}
use Rattle.tomex_study.specs.Program.{Workload, steps_of}
use Rattle.tomex_study.specs.Study.{DesignSpace}
use Rattle.tomex_study.specs.ListFindings.{ListFindings}
use Rattle.tomex_study.specs.declared.list_report.Floors.{Floors}
use Rattle.tomex_config.specs.Cost.{PriceList}
use Rattle.tomex_front_views.specs.LinkedPlot.{linked_picture_of}
use Rattle.tomex_page_tables.specs.Asked.{programs_table}
use Rattle.tomex_page_rows.specs.Lists.{lists_table}
use Rattle.tomex_page_rows.specs.Sentence.{floor_sentence}
use Rattle.tomex_page_rows.specs.Additions.{choices_table}
use Rattle.tomex_page_rows.specs.Changed.{changes_table}
use Rattle.tomex_page.specs.Charts.{chart_of, first_steps}
use Rattle.tomex_page.specs.Constants.{choices_help, commands_help, page_css, page_help}
use Rattle.tomex_page_tables.specs.Front.{front_table, hull_mark}
use Rattle.tomex_page_tables.specs.Steps.{steps_sentence}
use Rattle.tomex_page_rows.specs.Parts.{against, parts_table}
use Rattle.tomex_page.specs.Runs.{floor_on, needs_on, path_on}
use Rattle.tomex_page_tables.specs.Shown.{most_rows, no_row, row_of, shown_rows}
use Rattle.tomex_page.specs.Stalls.{stalls_table}
use Rattle.tomex_page_rows.specs.Stays.{prices_table}
use Rattle.tomex_page.specs.declared.section.View.{View}
use Rattle.tomex_timing.specs.Search.{times_in}
use Rattle.tomex_page_tables.specs.declared.shown.ShownRow.{ShownRow}

-- a program's run on a configuration: its stalls, and its chart
unfoldable pub run_stalls : Configuration → Workload → List ℕ
run_stalls config p = stalls_table config (needs_on config p) (path_on config p) (floor_on config p) p.name

unfoldable pub run_block : Configuration → Workload → List ℕ
run_block config p =
    codes "<div>\n" ++ (run_stalls config p
    ++ (chart_of p.name (first_steps (steps_of p) (times_in config (steps_of p))) ++ codes "</div>\n"))

-- the start of a row's view; those of rows on the hull have a mark
unfoldable pub section_start : List FrontRow → FrontRow → List ℕ
section_start hull r =
    codes "<section id=\"r" ++ (decimal r.row ++ (codes "\"" ++ (hull_mark hull r.row
    ++ (codes ">\n<header><h2>Row " ++ (decimal r.row ++ (codes " <small>cost " ++ (decimal r.cost
    ++ (codes ", " ++ (decimal r.cycles ++ codes " cycles</small></h2>\n")))))))))

abbrev pub number_of : FrontRow → ℕ
number_of r = r.row

abbrev pub number_before : ShownRow → ℕ
number_before r = r.row.row

-- a row's view among those of the rows that are shown; a view's number is the row's
abbrev pub view_of : List FrontRow → View → Links
view_of shown v = record {
  first = (slice_index_or shown 0 no_row).row;
  before = option_map number_before v.before;
  here = v.here.row.row;
  after = option_map number_of v.after;
  last = (slice_index_or shown (length shown - 1) no_row).row;
}

-- the header of a row's view
unfoldable pub section_head : List FrontRow → List FrontRow → View → List ℕ
section_head hull shown v = section_start hull v.here.row ++ (links (view_of shown v) ++ codes "</header>\n")

-- the tables of a row
unfoldable pub section_tables : DesignSpace → List FrontRow → View → List ℕ
section_tables s shown v =
    against v.before v.here ++ (parts_table s.prices v.before v.here
    ++ (changes_table s shown v.here.row ++ prices_table s v.here.row))

-- the programs' runs on a row
unfoldable pub section_runs : List Workload → Configuration → List ℕ
section_runs programs config =
    codes "<div class=\"l\">\n" ++ (flat_map (run_block config) programs ++ codes "</div>\n</section>\n")

-- a row's view
unfoldable pub row_section : DesignSpace → List FrontRow → List FrontRow → View → List ℕ
row_section s hull shown v =
    section_head hull shown v ++ (section_tables s shown v ++ section_runs s.programs v.here.config)

abbrev pub view_at : DesignSpace → Option ShownRow → FrontRow → List FrontRow → View
view_at s before r rows = record { before = before; here = row_of s r; after = slice_get rows 0 }

-- the views of the rows after one, if there is one
abbrev pub row_sections : DesignSpace → List FrontRow → List FrontRow → Option ShownRow → List FrontRow → List ℕ
row_sections s hull shown before [] = []
row_sections s hull shown before (r ∷ rows) =
    row_section s hull shown (view_at s before r rows) ++ row_sections s hull shown (Some (row_of s r)) rows

-- the rows of the front that aren't shown
unfoldable pub all_in_picture : ℕ → List ℕ
all_in_picture front =
    codes "<p>The picture has all " ++ (decimal front
    ++ (codes " rows of the front. The table and the rows below it are 64 of them: <code>tomex front</code> "
    ++ codes "has them all.</p>\n"))

unfoldable pub left_out : ℕ → List ℕ
left_out front = if nat_le front most_rows then [] else all_in_picture front

-- the number of rows, and how many of them are on the front
unfoldable pub counts_text : ℕ → ℕ → List ℕ
counts_text front rows =
    codes ": " ++ (decimal front ++ (codes " of " ++ (decimal rows ++ codes " rows are on the front")))

unfoldable pub title_of : List ℕ → ℕ → ℕ → List ℕ
title_of name front rows = html_name name ++ counts_text front rows

-- the study's name may have any characters; its element isolates its direction from the rest of the page
unfoldable pub page_name : List ℕ → ℕ → ℕ → List ℕ
page_name name front rows =
    page_start (title_of name front rows) page_css ++ (codes "<header><h1><bdi>" ++ (html_name name
    ++ (codes "</bdi>" ++ (counts_text front rows ++ codes "</h1>\n"))))

-- with the rows that are worth taking
unfoldable pub page_head : List ℕ → ℕ → ℕ → List FrontRow → List FrontRow → List ℕ
page_head name front rows hull shown =
    page_name name front rows
    ++ (steps_sentence hull front shown ++ codes "</header>\n<main>\n<div class=\"c\">\n")

-- the picture next to what was asked, and how far the fastest row is from what no machine goes below
unfoldable pub overview : DesignSpace → Floors → List FrontRow → List FrontRow → List ℕ
overview s floors hull shown =
    codes "<div class=\"w\">" ++ (linked_picture_of s hull shown ++ (codes "</div>\n<div>\n"
    ++ (programs_table s ++ (lists_table s ++ (floor_sentence floors ++ codes "</div>\n</div>\n")))))

-- if it was asked for, what choices that the lists lack would bring
unfoldable pub asked_choices : PriceList → Option (List ListFindings) → List ℕ
asked_choices prices (Some lists) = choices_table prices lists
asked_choices prices None = []

unfoldable pub asked_help : Option (List ListFindings) → List ℕ
asked_help (Some lists) = choices_help
asked_help None = []

-- the views of the rows that are shown
unfoldable pub views_text : DesignSpace → List FrontRow → List FrontRow → List ℕ
views_text s hull shown =
    codes "<div class=\"v\">\n" ++ (row_sections s hull shown None shown ++ codes "</div>\n</main>\n")

-- what comes before the choices that the lists lack, and what comes after them
unfoldable pub page_start_of : List ℕ → DesignSpace → Floors → ℕ → List FrontRow → List FrontRow → List ℕ
page_start_of name s floors front hull shown =
    page_head name front (length s.rows) hull shown ++ (overview s floors hull shown
    ++ (left_out front ++ front_table s hull shown))

unfoldable pub page_rest : DesignSpace → List FrontRow → List FrontRow → Option (List ListFindings) → List ℕ
page_rest s hull shown asked =
    views_text s hull shown ++ (page_help ++ (asked_help asked ++ (commands_help ++ page_end)))

-- given the length of the front, and of its rows those on its hull and those that are shown
unfoldable pub page_over : List ℕ → DesignSpace → Floors → ℕ → List FrontRow → List FrontRow
    → Option (List ListFindings) → List ℕ
page_over name s floors front hull shown asked =
    page_start_of name s floors front hull shown ++ (asked_choices s.prices asked ++ page_rest s hull shown asked)

-- the page of a study with this name and these floors; if that was asked for, with what was found out of its lists
unfoldable pub page_of : Option (List ListFindings) → Floors → List ℕ → DesignSpace → List ℕ
page_of asked floors name s =
    let front = front_of_study s in
    page_over name s floors (length front) (hull_of front) (shown_rows front) asked
