-- Laws of the table of instructions: which steps a view lists, and how often its rows say that a step waits.
use Rattle.std.specs.Prelude.{ℕ, ◌+◌, ◌<◌, ◌≤◌, ◌≡◌, Bool, List, ◌++◌, All, Option, codes, count_by, sum_by}
use Rattle.std.specs.List.{Contains, filter, flat_map, range_with_len}
use Rattle.std.specs.Str.{bytes_eq}
use Rattle.tomex_rvexec.specs.declared.step.Step.{Step}
use Rattle.tomex_config.specs.Configuration.{Configuration, IsWithinLimits}
use Rattle.tomex_timing.specs.History.{last_issue}
use Rattle.tomex_timing.specs.Needs.{pool_stalls, stalls, stalls_by, unit_stalls}
use Rattle.tomex_timing.specs.Search.{history, times_in, total_of}
use Rattle.tomex_config.specs.declared.part.Part.TheVariants.{Buses, Width}
use Rattle.tomex_timing.specs.declared.times.Done.{Done}
use Rattle.tomex_html.specs.Html.{table_end}
use Rattle.tomex_snapshots.specs.Entries.{entries_of, is_listed_in}
use Rattle.tomex_snapshots.specs.declared.entries.Entry.{Entry}
use Rattle.tomex_snapshots.specs.declared.entries.Span.{Span}
use Rattle.tomex_frames.specs.Blank.{blank_status, blank_step}
use Rattle.tomex_frames.specs.Cells.{doing_in, doing_text}
use Rattle.tomex_frames.specs.Constants.{status_head}
use Rattle.tomex_frames.specs.Status.{listed_cycles, status_table, step_row}

-- the steps that a view lists
abbrev pub rows_of : Span → List Entry → ℕ → List Entry
rows_of page es t = filter (is_listed_in (listed_cycles page es t)) es

-- it has a row for each of them
abbrev pub RowsAreOfSteps : Type 0
RowsAreOfSteps = (framed : Option ℕ) (page : Span) (es : List Entry) (t : ℕ)
    → status_table framed page es t ≡ status_head ++ (flat_map (step_row framed t) (rows_of page es t) ++ table_end)

-- and so has one whose cells are empty
abbrev pub BlankRowsAreOfSteps : Type 0
BlankRowsAreOfSteps = (page : Span) (es : List Entry) (t : ℕ)
    → blank_status page es t ≡ status_head ++ (flat_map blank_step (rows_of page es t) ++ table_end)

-- a cycle is one of a page's
abbrev pub IsOn : Span → ℕ → Type 0
IsOn page t = (page.from ≤ t) × (t ≤ page.to)

-- A step is listed in each view from the issue of the step before it, from which on it waits to issue, to its end.
abbrev pub NothingIsLost : Type 0
NothingIsLost = (page : Span) (es : List Entry) (e : Entry) (t : ℕ) → IsOn page t → Contains es e
    → e.from ≤ t → t ≤ e.at.end → Contains (rows_of page es t) e

-- so from its own issue on
abbrev pub WaitsComeBeforeIssues : Type 0
WaitsComeBeforeIssues = (config : Configuration) (steps : List Step) → IsWithinLimits config
    → All (λ e. e.from ≤ e.at.issue) (entries_of config steps)

-- and in each view before the last issue one is listed that has yet to issue
abbrev pub NextIsListed : Type 0
NextIsListed = (config : Configuration) (steps : List Step) (page : Span) (t : ℕ) → IsWithinLimits config
    → IsOn page t → 0 < t → t < last_issue (history config steps)
    → (e : Entry) × Contains (rows_of page (entries_of config steps) t) e × (t < e.at.issue)

-- a step's row says this
abbrev pub says : List ℕ → ℕ → Entry → Bool
says words t e = bytes_eq words (doing_text (doing_in t e))

-- in how many of the cycles up to the last one
abbrev pub cycles_with : List ℕ → ℕ → Entry → ℕ
cycles_with words last e = count_by (λ t. says words t e) (range_with_len 1 last)

-- A step's row shows each cause for as many cycles as the step waits for it. Its address cycle counts as a wait for
-- its operand or its address.
pub record ShowsWaits (last : ℕ) (e : Entry) : Type 0 where
  pub branch : cycles_with (codes "waits: branch") last e ≡ e.waits.branch
  pub width : cycles_with (codes "waits: width") last e ≡ e.waits.width
  pub station : cycles_with (codes "waits: station") last e ≡ e.waits.station
  pub operands : cycles_with (codes "waits: operand") last e + cycles_with (codes "waits: address") last e
      + cycles_with (codes "address") last e ≡ e.waits.operand + e.waits.address
  pub memory : cycles_with (codes "waits: memory") last e ≡ e.waits.memory
  pub unit : cycles_with (codes "waits: unit") last e ≡ e.waits.unit
  pub bus : cycles_with (codes "waits: bus") last e ≡ e.waits.bus

-- each step of a run, over all its cycles
abbrev pub StepsShowTheirWaits : Type 0
StepsShowTheirWaits = (config : Configuration) (steps : List Step) → IsWithinLimits config
    → All (ShowsWaits (total_of (times_in config steps))) (entries_of config steps)

-- how often a row says this in the views of cycles 1 to `last`, each of which is on a page
abbrev pub rows_with : List ℕ → (ℕ → Span) → ℕ → List Entry → ℕ
rows_with words page last es =
    sum_by (λ t. count_by (says words t) (rows_of (page t) es t)) (range_with_len 1 last)

-- The views of a run say as often that steps wait as its stalls are: those of all pools, and of all kinds of units.
pub record ShowStalls (config : Configuration) (h : List Done) (rows : List ℕ → ℕ) : Type 0 where
  pub branch : rows (codes "waits: branch") ≡ stalls_by (λ w. w.branch) config h
  pub width : rows (codes "waits: width") ≡ stalls config Width h
  pub station : rows (codes "waits: station") ≡ pool_stalls config h
  pub operands : rows (codes "waits: operand") + rows (codes "waits: address") + rows (codes "address")
      ≡ stalls_by (λ w. w.operand) config h + stalls_by (λ w. w.address) config h
  pub memory : rows (codes "waits: memory") ≡ stalls_by (λ w. w.memory) config h
  pub unit : rows (codes "waits: unit") ≡ unit_stalls config h
  pub bus : rows (codes "waits: bus") ≡ stalls config Buses h

-- whatever pages the views are on
abbrev pub ViewsShowStalls : Type 0
ViewsShowStalls = (config : Configuration) (steps : List Step) (page : ℕ → Span) → IsWithinLimits config
    → ((t : ℕ) → IsOn (page t) t)
    → ShowStalls config (history config steps)
    (λ words. rows_with words page (total_of (times_in config steps)) (entries_of config steps))
