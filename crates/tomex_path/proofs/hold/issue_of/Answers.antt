-- The last wait before the issue says what holds it.
use Rattle.std.proofs.Common.{◌∙◌, ap, sym}
use Rattle.tomex_timing.specs.Needs.{waits_of}
use Rattle.tomex_path.specs.declared.note.Seen.{Seen}
use Rattle.tomex_path.proofs.HoldSteps.{by_issue_wait}
use Rattle.tomex_path.proofs.hold.issue_of.Goals as goal

pub returns-in-Station : goal.returns-in-Station
returns-in-Station c = λ config older d e.
    c.station_of.ensures config older d e
    ∙ by_issue_wait older d (waits_of config older d) (sym c.in-Station.is ∙ ap (λ (s : Seen). s.note.issue) e)

pub returns-in-Width : goal.returns-in-Width
returns-in-Width c = λ config older d e.
    rw (c.saturating_sub.ensures, ap (λ (s : Seen). s.at.issue) e)
    (by_issue_wait older d (waits_of config older d) (sym c.in-Width.is ∙ ap (λ (s : Seen). s.note.issue) e))

pub returns-in-Branch : goal.returns-in-Branch
returns-in-Branch c = λ config older d e.
    rw (ap (λ (s : Seen). s.at.issue) e)
    (by_issue_wait older d (waits_of config older d) (sym c.in-Branch.is ∙ ap (λ (s : Seen). s.note.issue) e))

pub returns-in-Nothing : goal.returns-in-Nothing
returns-in-Nothing c = λ config older d e.
    c.turn_of.ensures config older d e
    ∙ by_issue_wait older d (waits_of config older d) (sym c.in-Nothing.is ∙ ap (λ (s : Seen). s.note.issue) e)
