-- A step that doesn't wait for a bus.
use Rattle.std.proofs.Common.{◌≤◌, ◌≡◌, ◌∙◌, ap, subst, sym}
use Rattle.tomex_timing.specs.Needs.{waits_of}
use Rattle.tomex_path.specs.declared.note.Seen.{Seen}
use Rattle.tomex_path.specs.Seen.{bus_wait}
use Rattle.tomex_path.proofs.HoldSteps.{no_bus}
use Rattle.tomex_path.proofs.hold.end_of.Goals as goal

pub returns-else-bus_wait-gt0 : goal.returns-else-bus_wait-gt0
returns-else-bus_wait-gt0 c = λ config older d e.
    let same : c.bus_wait.result ≡ bus_wait d.at = c.bus_wait.ensures ∙ ap (λ (s : Seen). bus_wait s.at) e in
    c.start_of.ensures config older d e
    ∙ sym (no_bus older d (waits_of config older d) (subst (λ n. n ≤ 0) same c.if-bus_wait-gt0.false))
