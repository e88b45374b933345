-- A step without a unit.
use Rattle.std.proofs.Common.{◌∙◌, ap, sym}
use Rattle.tomex_timing.specs.Needs.{waits_of}
use Rattle.tomex_path.specs.declared.note.Seen.{Seen}
use Rattle.tomex_path.proofs.HoldSteps.{no_unit}
use Rattle.tomex_path.proofs.hold.unit_of.Goals as goal

pub returns-in-None : goal.returns-in-None
returns-in-None c = λ config older d e.
    c.issue_of.ensures config older d e
    ∙ sym (no_unit older d (waits_of config older d) (sym (ap (λ (s : Seen). s.facts.unit) e) ∙ c.in-None.is))
