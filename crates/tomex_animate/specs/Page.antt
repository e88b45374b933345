-- The page of some cycles of a run: a view for each cycle, with Tomasulo's tables after it.
use Rattle.std.specs.Prelude.{◌≡◌, ℕ, ◌+◌, ◌-◌, ◌<◌, ◌≤◌, nat_lt, if◌then◌else◌, List, [], ◌++◌, codes, min}
use Rattle.std.specs.Prelude.{Some, None}
use Rattle.std.specs.List.{flat_map}
use Rattle.std.specs.Fmt.{decimal}
use Rattle.tomex_image.specs.Image.{Loaded}
use Rattle.tomex_rvexec.specs.Machine.{State}
use Rattle.tomex_rvexec.specs.Run.{RunEnds, start_of}
use Rattle.tomex_rvexec.specs.Trace.{steps_from}
use Rattle.tomex_rvexec.specs.declared.outcome.EndKind.{EndKind}
use Rattle.tomex_rvexec.specs.declared.step.Step.{Step}
use Rattle.tomex_study.specs.Program.{Workload}
use Rattle.tomex_config.specs.Configuration.{Configuration}
use Rattle.tomex_timing.specs.Search.{history, times_in, total_of}
use Rattle.tomex_path.specs.Path.{path_of}
use Rattle.tomex_path.specs.declared.link.Link.{Link}
use Rattle.tomex_html.specs.Html.{html_name, links, page_end, page_start}
use Rattle.tomex_html.specs.declared.links.Links.{Links}
use Rattle.tomex_animate.specs.Constants.{animate_css, animate_help, blank_css, blank_help}
use Rattle.tomex_snapshots.specs.Entries.{entries_of, history_of}
use Rattle.tomex_frames.specs.Blank.{blank_events, blank_registers, blank_stations, blank_status}
use Rattle.tomex_frames.specs.Events.{events}
use Rattle.tomex_frames.specs.OnPath.{at_cycle, framed_step, path_line}
use Rattle.tomex_animate.specs.Machine.{cycles_of, index, machine_table}
use Rattle.tomex_frames.specs.Stations.{register_status, station_table}
use Rattle.tomex_frames.specs.Status.{status_table}
use Rattle.tomex_animate.specs.declared.cells.Cells.{Cells}
use Rattle.tomex_animate.specs.declared.cells.Cells.TheVariants.{Filled, Blank}
use Rattle.tomex_animate.specs.declared.animation_error.AnimationError.{AnimationError}
use Rattle.tomex_animate.specs.declared.animation_error.AnimationError.TheVariants.{PastEnd, Memory}
use Rattle.tomex_snapshots.specs.declared.entries.Entry.{Entry}
use Rattle.tomex_snapshots.specs.declared.entries.Span.{Span}

-- the links of the view of cycle t among those of the page
unfoldable pub links_at : Span → ℕ → Links
links_at page t = record {
  first = page.from;
  before = if nat_lt page.from t then Some (t - 1) else None;
  here = t;
  after = if nat_lt t page.to then Some (t + 1) else None;
  last = page.to;
}

-- the head of a view, with the path's line
unfoldable pub frame_head : Span → ℕ → ℕ → List ℕ → List ℕ
frame_head page total t line =
    (codes "<section id=\"c" ++ (decimal t ++ (codes "\">\n<header><h2>Cycle " ++ (decimal t
    ++ (codes " <small>of " ++ (decimal total ++ codes "</small></h2>\n"))))))
    ++ (links (links_at page t) ++ (line ++ codes "</header>\n"))

-- the view of a cycle of a run with these steps, these registers at its end and this path
unfoldable pub frame : Configuration → Span → ℕ → List Step → List ℕ → List Link → List Entry → ℕ → List ℕ
frame config page total steps last path es t =
    let place = at_cycle t path in
    frame_head page total t (path_line steps t place)
    ++ (events steps last t es ++ (status_table (framed_step place) page es t ++ (station_table config t (history_of es)
    ++ (register_status t (history_of es) ++ codes "</section>\n"))))

-- the same view to be filled in; the path's line is among what is left out
unfoldable pub blank_frame : Configuration → Span → ℕ → List Entry → ℕ → List ℕ
blank_frame config page total es t =
    frame_head page total t [] ++ (blank_events ++ (blank_status page es t ++ (blank_stations config
    ++ (blank_registers ++ codes "</section>\n"))))

-- the run that the page shows; a study's name is that of the command line
unfoldable pub run_named : List ℕ → ℕ → List ℕ
run_named program number = program ++ (codes " on configuration " ++ (decimal number ++ codes " of "))

unfoldable pub title_of : List ℕ → List ℕ → ℕ → Span → List ℕ
title_of study program number page =
    run_named program number ++ (html_name study ++ (codes ", cycles " ++ (decimal page.from
    ++ (codes " to " ++ decimal page.to))))

-- the style and the explanation of a page
abbrev pub style_of : Cells → List ℕ
style_of Filled = animate_css
style_of Blank = animate_css ++ blank_css

abbrev pub help_of : Cells → List ℕ
help_of Filled = animate_help
help_of Blank = blank_help

unfoldable pub page_head : Cells → List ℕ → List ℕ → ℕ → Span → List ℕ
page_head cells study program number page =
    page_start (title_of study program number page) (style_of cells)
    ++ (codes "<header><h1>" ++ (run_named program number ++ (codes "<bdi>" ++ (html_name study
    ++ codes "</bdi></h1></header>\n<main class=\"v\">\n"))))

unfoldable pub page_foot : Cells → Configuration → Span → List ℕ
page_foot cells config page =
    codes "</main>\n<footer>\n" ++ (machine_table config ++ (index page ++ (help_of cells
    ++ (codes "</footer>\n" ++ page_end))))

-- the view of a cycle, whose cells are full, or empty
abbrev pub view_of : Cells → Configuration → Span → ℕ → List Step → List ℕ → List Link → List Entry → ℕ → List ℕ
view_of Filled config page total steps last path es t = frame config page total steps last path es t
view_of Blank config page total steps last path es t = blank_frame config page total es t

abbrev pub animate_page : Cells → List ℕ → List ℕ → ℕ → Configuration → Span → ℕ → List Step → List ℕ → List Link
    → List Entry → List ℕ
animate_page cells study program number config page total steps last path es =
    page_head cells study program number page
    ++ (flat_map (view_of cells config page total steps last path es) (cycles_of page) ++ page_foot cells config page)

-- from the first cycle on, as many as are asked for, but none after the total
abbrev pub page_of : ℕ → ℕ → ℕ → Span
page_of first count total = record { from = first; to = min (first + count - 1) total }

-- a run within this limit ends, and these are its registers then
abbrev pub LeavesRegisters : Loaded → ℕ → List ℕ → Type 0
LeavesRegisters i limit last =
    (k : ℕ) × (s : State) × (kind : EndKind) × (k < limit) × RunEnds i k s kind × (last ≡ s.regs)

-- the text is the page of the cycles that are asked for; the path is that of the whole run
pub record IsAnimationOf (cells : Cells) (study program : List ℕ) (number : ℕ) (config : Configuration)
    (steps : List Step) (last : List ℕ) (first count : ℕ) (text : List ℕ) : Type 0 where
  pub reached : first ≤ total_of (times_in config steps)
  pub is : text ≡ animate_page cells study program number config
      (page_of first count (total_of (times_in config steps))) (total_of (times_in config steps)) steps last
      (path_of config (history config steps)) (entries_of config steps)

-- of a program's run
abbrev pub IsAnimation : Cells → List ℕ → Workload → ℕ → Configuration → ℕ → ℕ → List ℕ → Type 0
IsAnimation cells study p number config first count text = (last : List ℕ) × LeavesRegisters p.image p.limit last
    × IsAnimationOf cells study p.name number config (steps_from p.limit (start_of p.image)) last first count text

-- why there is no page
abbrev pub IsUnanimated : Configuration → List Step → ℕ → AnimationError → Type 0
IsUnanimated config steps first PastEnd = total_of (times_in config steps) < first
IsUnanimated config steps first Memory = Unit {0}
