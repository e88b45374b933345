-- What is held shows the steps so far, and so do the times and the notes.
use Rattle.std.proofs.Common.{◌≡◌, List, take}
use Rattle.tomex_rvexec.specs.declared.step.Step.{Step}
use Rattle.tomex_timing.specs.Ahead.{held_by}
use Rattle.tomex_timing.specs.Recent.{AreFacts}
use Rattle.tomex_timing.specs.Search.{history, times_in}
use Rattle.tomex_timing.proofs.Summary.{IsShown}
use Rattle.tomex_path.specs.Seen.{notes_in}
use Rattle.tomex_path.proofs.note.notes_of.Given as goal

abbrev pub invariant-loop-step : goal.invariant-loop-step
invariant-loop-step g l = (steps : List Step) → AreFacts steps l.facts → record {
  shown : IsShown (history l.config (take l.step-index steps)) (held_by l.recent);
  times : l.times.items ≡ times_in l.config (take l.step-index steps);
  notes : l.notes.items ≡ notes_in l.config (take l.step-index steps);
}
