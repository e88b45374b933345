-- What is held shows the steps so far, and so do the waits.
use Rattle.std.proofs.Common.{◌≡◌, take}
use Rattle.tomex_timing.specs.Ahead.{held_by}
use Rattle.tomex_timing.specs.Needs.{waits_in}
use Rattle.tomex_timing.specs.Search.{history}
use Rattle.tomex_timing.proofs.Summary.{IsShown}
use Rattle.tomex_timing.proofs.evaluate.waits.Given as goal

abbrev pub invariant-loop-step : goal.invariant-loop-step
invariant-loop-step g l = record {
  shown : IsShown (history l.config (take l.step-index l.steps)) (held_by l.recent);
  waits : l.result.items ≡ waits_in l.config (take l.step-index l.steps);
}
