-- Laws of the page.
use Rattle.std.specs.Prelude.{◌≡◌, ◌≢◌, ◌<◌, ◌≤◌, ℕ, ◌+◌, ◌-◌, List, [], ◌∷◌, ◌++◌, length, map, slice_index_or}
use Rattle.std.specs.Prelude.{sum_by, All, Option, Some, None, true, false}
use Rattle.std.specs.List.{Contains, flat_map}
use Rattle.std.specs.Option.{ForSome}
use Rattle.tomex_config.specs.Configuration.{Configuration, IsWithinLimits}
use Rattle.tomex_html.specs.declared.links.Links.{Links}
use Rattle.tomex_front_views.specs.FrontTable.{rates_after}
use Rattle.tomex_page_tables.specs.Front.{rate_in}
use Rattle.tomex_pareto.specs.Hull.{hull_of}
use Rattle.tomex_pareto.specs.declared.front_row.FrontRow.{FrontRow}
use Rattle.tomex_study.specs.StudyFront.{front_of_study}
use Rattle.tomex_study.specs.Program.{Workload, steps_of}
use Rattle.tomex_study.specs.ListFindings.{ListFindings}
use Rattle.tomex_study.specs.Study.{DesignSpace}
use Rattle.tomex_study.specs.declared.list_report.Floors.{Floors}
use Rattle.tomex_pareto.specs.Front.{is_on}
use Rattle.tomex_timing.specs.Needs.{need_of}
use Rattle.tomex_timing.specs.declared.needs.Needs.{Needs}
use Rattle.tomex_config.specs.declared.part.Part.TheVariants.{Width}
use Rattle.tomex_page_tables.specs.Shown.{no_row, row_of, shown_rows}
use Rattle.tomex_page_tables.specs.declared.shown.ShownRow.{ShownRow}
use Rattle.tomex_path.specs.declared.reason.Reason.{Reason}
use Rattle.tomex_path.specs.declared.reason.Reason.TheVariants.{For, Branch, Operand, Address, Memory, Order}
use Rattle.tomex_page_rows.specs.Additions.{choices_table}
use Rattle.tomex_page.specs.Constants.{choices_help}
use Rattle.tomex_page.specs.Page.{page_of, row_section, row_sections, view_at, view_of}
use Rattle.tomex_page.specs.Runs.{needs_on, path_on}
use Rattle.tomex_page.specs.Stalls.{on_path, pool_parts}
use Rattle.tomex_page.specs.declared.section.View.{View}

-- what the lines of `before_issue` have: for a branch, the width, each pool and the drain
abbrev pub cycles_before_issue : Needs → ℕ
cycles_before_issue needs =
    needs.branch + (need_of needs Width).stalls + sum_by (λ part. (need_of needs part).stalls) pool_parts
    + (needs.total - needs.last_issue)

-- these and 1 are all cycles of a run that has steps
abbrev pub CyclesAddUp : Type 0
CyclesAddUp = (config : Configuration) (p : Workload) → IsWithinLimits config → 0 < length (steps_of p)
    → cycles_before_issue (needs_on config p) + 1 ≡ (needs_on config p).total

-- the number under Cycles in a reason's line; nothing is counted for the order of a step's events
abbrev pub cycles_for : Needs → Reason → ℕ
cycles_for needs (For part) = (need_of needs part).stalls
cycles_for needs Branch = needs.branch
cycles_for needs Operand = needs.operand
cycles_for needs Address = needs.address
cycles_for needs Memory = needs.memory
cycles_for needs Order = 0

-- the number under On path is at most the one under Cycles
abbrev pub OnPathIsWithin : Type 0
OnPathIsWithin = (config : Configuration) (p : Workload) (reason : Reason) → IsWithinLimits config
    → on_path (path_on config p) reason ≤ cycles_for (needs_on config p) reason

-- A page for which what was found out of the lists was asked has that and its explanation, and is otherwise the page.
pub record Adds (lists : List ListFindings) (floors : Floors) (name : List ℕ) (s : DesignSpace) : Type 0 where
  pub before : List ℕ
  pub between : List ℕ
  pub after : List ℕ
  pub page : page_of None floors name s ≡ before ++ (between ++ after)
  pub with_choices : page_of (Some lists) floors name s
      ≡ before ++ (choices_table s.prices lists ++ (between ++ (choices_help ++ after)))

abbrev pub ChoicesAreAdded : Type 0
ChoicesAreAdded = (lists : List ListFindings) (floors : Floors) (name : List ℕ) (s : DesignSpace)
    → Adds lists floors name s

-- the views of the rows after one, if there is one
abbrev pub views_of : DesignSpace → Option ShownRow → List FrontRow → List View
views_of s before [] = []
views_of s before (r ∷ rows) = view_at s before r rows ∷ views_of s (Some (row_of s r)) rows

-- the sections of a page are a view for each row that is shown, in their order
abbrev pub SectionsAreViews : Type 0
SectionsAreViews = (s : DesignSpace) (hull shown rows : List FrontRow) (before : Option ShownRow)
    → row_sections s hull shown before rows ≡ flat_map (row_section s hull shown) (views_of s before rows)

abbrev pub ViewsAreOfRows : Type 0
ViewsAreOfRows = (s : DesignSpace) (before : Option ShownRow) (rows : List FrontRow)
    → map (λ v. v.here.row) (views_of s before rows) ≡ rows

-- a row of this number is shown
abbrev pub IsShownRow : List FrontRow → ℕ → Type 0
IsShownRow shown n = (r : FrontRow) × Contains shown r × (r.row ≡ n)

-- what the picture and the tables link to
abbrev pub LinkedRowsAreShown : Type 0
LinkedRowsAreShown = (shown : List FrontRow) (n : ℕ) → is_on shown n ≡ true → IsShownRow shown n

-- each link of a view leads to the view of a row that is shown
pub record LeadsOn (shown : List FrontRow) (l : Links) : Type 0 where
  pub first : IsShownRow shown l.first
  pub before : ForSome l.before (λ n. IsShownRow shown n)
  pub after : ForSome l.after (λ n. IsShownRow shown n)
  pub last : IsShownRow shown l.last

abbrev pub LinksLeadToViews : Type 0
LinksLeadToViews = (s : DesignSpace) (shown : List FrontRow)
    → All (λ v. LeadsOn shown (view_of shown v)) (views_of s None shown)

-- the rates in the table of the front are those that `front --hull` prints, each in the row of its number
abbrev pub RatesAreTheHulls : Type 0
RatesAreTheHulls = (s : DesignSpace) → let hull = hull_of (front_of_study s) in
    map (λ (r : FrontRow). rate_in None hull r.row) hull ≡ rates_after None hull

-- no other row has one
abbrev pub OthersHaveNoRate : Type 0
OthersHaveNoRate = (rows : List FrontRow) (n : ℕ) → is_on rows n ≡ false → rate_in None rows n ≡ []

-- no two of these rows have one number
abbrev pub AreApart : List FrontRow → Type 0
AreApart rows = (j k : ℕ) → j < k → k < length rows
    → (slice_index_or rows j no_row).row ≢ (slice_index_or rows k no_row).row

abbrev pub ViewsAreApart : Type 0
ViewsAreApart = (s : DesignSpace) → AreApart (shown_rows (front_of_study s))
