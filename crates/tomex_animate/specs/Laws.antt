-- Laws of the page.
use Rattle.std.specs.Prelude.{◌≡◌, ◌<◌, ◌↔◌, ℕ, List, Some}
use Rattle.std.specs.List.{Contains}
use Rattle.std.specs.Option.{ForSome}
use Rattle.tomex_rvexec.specs.declared.step.Step.{Step}
use Rattle.tomex_config.specs.Configuration.{Configuration, stations_of}
use Rattle.tomex_timing.specs.Recurrence.{AreTimed}
use Rattle.tomex_timing.specs.Search.{history}
use Rattle.tomex_timing.specs.Tables.{station_fields}
use Rattle.tomex_timing.specs.declared.tables.Busy.{Busy}
use Rattle.tomex_timing.specs.declared.tables.Tag.{Tag}
use Rattle.tomex_timing.specs.declared.times.Done.{Done}
use Rattle.tomex_html.specs.declared.links.Links.{Links}
use Rattle.tomex_snapshots.specs.Entries.{entries_of, history_of}
use Rattle.tomex_snapshots.specs.declared.entries.Span.{Span}
use Rattle.tomex_frames.specs.Laws.{IsOn}
use Rattle.tomex_animate.specs.Machine.{cycles_of}
use Rattle.tomex_animate.specs.Page.{links_at}

-- the steps of a page, as a history, are the history of the run, of which tables are
abbrev pub EntriesAreTheHistory : Type 0
EntriesAreTheHistory = (config : Configuration) (steps : List Step)
    → history_of (entries_of config steps) ≡ history config steps

-- each station that tables show as busy is one that the machine has, so a view has a row for it
abbrev pub BusyStationsHaveRows : Type 0
BusyStationsHaveRows = (config : Configuration) (h : List Done) (t : ℕ) (tag : Tag) (busy : Busy)
    → AreTimed config h → station_fields t h tag ≡ Some busy → tag.number < stations_of config tag.pool

-- the views of a page are those of its cycles
abbrev pub ViewsAreOfCycles : Type 0
ViewsAreOfCycles = (page : Span) (t : ℕ) → (Contains (cycles_of page) t) ↔ (IsOn page t)

-- each link of a view leads to a view of the page
pub record LeadsOn (page : Span) (l : Links) : Type 0 where
  pub first : IsOn page l.first
  pub before : ForSome l.before (λ t. IsOn page t)
  pub after : ForSome l.after (λ t. IsOn page t)
  pub last : IsOn page l.last

abbrev pub LinksLeadToViews : Type 0
LinksLeadToViews = (page : Span) (t : ℕ) → IsOn page t → LeadsOn page (links_at page t)
