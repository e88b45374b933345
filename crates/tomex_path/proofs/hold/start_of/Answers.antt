-- The last wait before the start says what holds it.
use Rattle.std.proofs.Common.{◌∙◌, ap, sym}
use Rattle.tomex_timing.specs.Needs.{waits_of}
use Rattle.tomex_path.specs.declared.note.Seen.{Seen}
use Rattle.tomex_path.proofs.HoldSteps.{by_start_wait}
use Rattle.tomex_path.proofs.hold.start_of.Goals as goal

pub returns-in-Unit : goal.returns-in-Unit
returns-in-Unit c = λ config older d e.
    c.unit_of.ensures config older d e
    ∙ by_start_wait older d (waits_of config older d) (sym c.in-Unit.is ∙ ap (λ (s : Seen). s.note.start) e)

pub returns-in-Memory : goal.returns-in-Memory
returns-in-Memory c = λ config older d e.
    rw (c.saturating_sub.ensures, ap (λ (s : Seen). s.at.start) e, ap (λ (s : Seen). s.facts) e)
    (by_start_wait older d (waits_of config older d) (sym c.in-Memory.is ∙ ap (λ (s : Seen). s.note.start) e))

pub returns-in-Address : goal.returns-in-Address
returns-in-Address c = λ config older d e.
    c.address_of.ensures config older d e
    ∙ by_start_wait older d (waits_of config older d) (sym c.in-Address.is ∙ ap (λ (s : Seen). s.note.start) e)

pub returns-in-Operand : goal.returns-in-Operand
returns-in-Operand c = λ config older d e.
    rw (ap (λ (s : Seen). s.at.start) e, c.producer_of.ensures config older d e)
    (by_start_wait older d (waits_of config older d) (sym c.in-Operand.is ∙ ap (λ (s : Seen). s.note.start) e))

pub returns-in-Nothing : goal.returns-in-Nothing
returns-in-Nothing c = λ config older d e.
    c.issue_of.ensures config older d e
    ∙ by_start_wait older d (waits_of config older d) (sym c.in-Nothing.is ∙ ap (λ (s : Seen). s.note.start) e)
