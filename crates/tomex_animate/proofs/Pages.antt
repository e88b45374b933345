-- The page of the steps that are in its views is that of all steps.
use Rattle.std.proofs.Common.{◌≡◌, ◌∙◌, ◌<◌, ◌≤◌, ◌+◌, ◌-◌, ℕ, arith, ap, ap₂, subst, sym, List, [], ◌++◌, min, true}
use Rattle.std.proofs.Common.{drop, length, take}
use Rattle.std.specs.Prelude.{All, nat_lt}
use Rattle.std.specs.List.{flat_map}
use Rattle.std.proofs.lemmas.Bool.{lt-ltb, ltb-true}
use Rattle.std.proofs.lemmas.List.{take-append-drop}
use Rattle.std.proofs.lemmas.List.Elements.{All-weaker}
use Rattle.tomex_rvexec.specs.declared.step.Step.{Step}
use Rattle.tomex_config.specs.Configuration.{Configuration}
use Rattle.tomex_timing.specs.Search.{history, times_in, total_of}
use Rattle.tomex_timing.specs.declared.times.Times.{Times}
use Rattle.tomex_path.specs.Path.{path_of}
use Rattle.tomex_path.specs.Within.{IsWithin}
use Rattle.tomex_path.specs.declared.link.Link.{Link}
use Rattle.tomex_snapshots.specs.Entries.{entries_of}
use Rattle.tomex_frames.specs.OnPath.{IsOfRun}
use Rattle.tomex_animate.specs.Stretch.{IsStretch, is_later, is_past}
use Rattle.tomex_animate.specs.declared.cells.Cells.{Cells}
use Rattle.tomex_animate.specs.Machine.{cycles_of}
use Rattle.tomex_animate.specs.Page.{IsAnimationOf, animate_page, page_foot, page_head, page_of, view_of}
use Rattle.tomex_snapshots.specs.declared.entries.Entry.{Entry}
use Rattle.tomex_snapshots.specs.declared.entries.Span.{Span}
use Rattle.tomex_layout.proofs.Pieces.{◌▸◌, last_piece}
use Rattle.tomex_animate.proofs.Whole.{views_same}

-- the steps between the first and the last ones
pub stretch_is : (page : Span) (all rest some : List Entry) (behind count : ℕ)
    → All (λ e. is_past page.from e ≡ true) (take behind all) → rest ≡ drop behind all
    → All (λ e. is_later page.to e ≡ true) (drop count rest) → some ≡ take count rest → IsStretch page all some
stretch_is page all rest some behind count past rest_is later some_is = record {
  front = take behind all;
  rest = drop count rest;
  is = sym (take-append-drop behind all) ∙ ap (λ (z : List Entry). take behind all ++ z)
      (sym rest_is ∙ (sym (take-append-drop count rest) ∙ ap (λ (z : List Entry). z ++ drop count rest) (sym some_is)));
  past = past;
  later = later;
}

-- the page's text
pub page_is : (cells : Cells) (study program : List ℕ) (number : ℕ) (config : Configuration) (page : Span) (total : ℕ)
    (steps : List Step) (end : List ℕ) (path : List Link) (es : List Entry)
    {none head views foot bytes : List ℕ} → none ≡ []
    → head ≡ none ++ page_head cells study program number page
    → views ≡ head ++ flat_map (view_of cells config page total steps end path es) (cycles_of page)
    → foot ≡ views ++ page_foot cells config page → bytes ≡ foot
    → bytes ≡ animate_page cells study program number config page total steps end path es
page_is cells study program number config page total steps end path es empty begun shown ended made =
    made ∙ ((begun ▸ shown ▸ last_piece ended).is
    ∙ ap (λ (z : List ℕ). z ++ animate_page cells study program number config page total steps end path es) empty)

pub animated : {cells : Cells} {study program : List ℕ} {number : ℕ} {config : Configuration}
    {run made walked : List Step} {end : List ℕ} {kept slice : List Times} {links path : List Link}
    {first count total : ℕ} {page : Span}
    {entries all some : List Entry} {text : List ℕ}
    → made ≡ run → walked ≡ run → kept ≡ times_in config walked → slice ≡ kept → total ≡ total_of slice
    → links ≡ path_of config (history config walked) → path ≡ links
    → (first ≤ total) × (page ≡ page_of first count total) → 0 < first → 0 < count
    → entries ≡ entries_of config made → all ≡ entries → IsStretch page all some
    → text ≡ animate_page cells study program number config page total made end path some
    → IsAnimationOf cells study program number config run end first count text
animated {cells = cells} {study = study} {program = program} {number = number} {config = config} {run = run}
    {made = made} {end = end} {path = path} {first = first} {count = count} {total = total} {page = page}
    {all = all} {some = some} {text = text}
    run_is walked_is kept_is same total_is links_are path_is page_is some_first some_count entries_are all_is stretch
    text_is =
    let low : first ≤ total = page_is.0 in
    let total_of_run : total ≡ total_of (times_in config run) =
    total_is ∙ ap total_of (same ∙ (kept_is ∙ ap (times_in config) walked_is)) in
    let all_of_run : all ≡ entries_of config run = all_is ∙ (entries_are ∙ ap (entries_of config) run_is) in
    let from : page.from ≡ first = ap (λ (p : Span). p.from) page_is.1 in
    let to : page.to ≡ min (first + count - 1) total = ap (λ (p : Span). p.to) page_is.1 in
    let path_of_run : path ≡ path_of config (history config run) =
    path_is ∙ (links_are ∙ ap (λ (xs : List Step). path_of config (history config xs)) walked_is) in
    let frames : flat_map (view_of cells config page total made end path all) (cycles_of page)
    ≡ flat_map (view_of cells config page total made end path some) (cycles_of page) =
    views_same cells config page total made end path all some
    (omega (arith, low, from, to, some_first, some_count)) stretch in
    let of_all : text ≡ animate_page cells study program number config page total made end path all =
    text_is ∙ ap (λ (z : List ℕ). page_head cells study program number page
    ++ (z ++ page_foot cells config page)) (sym frames) in
    let of_run : text
    ≡ animate_page cells study program number config page total run end (path_of config (history config run)) all =
    of_all ∙ ap₂ (λ (xs : List Step) (ls : List Link).
    animate_page cells study program number config page total xs end ls all) run_is path_of_run in
    let page_same : page ≡ page_of first count (total_of (times_in config run)) =
    page_is.1 ∙ ap (page_of first count) total_of_run in
    record {
      reached = subst (λ (n : ℕ). first ≤ n) total_of_run low;
      is = of_run ∙ (ap (λ (p : Span). animate_page cells study program number config p total run end
          (path_of config (history config run)) all) page_same
          ∙ ap₂ (λ (n : ℕ) (es : List Entry). animate_page cells study program number config
          (page_of first count (total_of (times_in config run))) n run end (path_of config (history config run)) es)
          total_of_run all_of_run);
    }

-- each link of a run's path is of one of its steps
pub links_of_run : {run : List Step} {links path : List Link} {total : ℕ} {made : List Step} → made ≡ run
    → All (IsWithin (length run) total) links → path ≡ links → All (IsOfRun (length made)) path
links_of_run {run = run} {links = links} {total = total} made_is within path_is =
    rw (made_is, path_is) (All-weaker (IsWithin (length run) total) (IsOfRun (length run))
    (λ l is. (is.first, is.last)) links within)

-- what has ended before a cycle has ended before the next one
pub passed_on : (path : List Link) (n t : ℕ) → All (λ l. nat_lt l.to t ≡ true) (take n path)
    → All (λ l. nat_lt l.to (t + 1) ≡ true) (take n path)
passed_on path n t passed =
    All-weaker (λ (l : Link). nat_lt l.to t ≡ true) (λ (l : Link). nat_lt l.to (t + 1) ≡ true)
    (λ l is. lt-ltb l.to (t + 1) (omega (arith, ltb-true l.to t is))) (take n path) passed
