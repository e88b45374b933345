-- What is held shows the steps so far, and so do the times.
use Rattle.std.proofs.Common.{◌≡◌, take}
use Rattle.tomex_timing.specs.Ahead.{held_by}
use Rattle.tomex_timing.specs.Search.{history, times_in}
use Rattle.tomex_timing.proofs.Summary.{IsShown}
use Rattle.tomex_timing.proofs.evaluate.times.Given as goal

abbrev pub invariant-loop-step : goal.invariant-loop-step
invariant-loop-step g l = record {
  shown : IsShown (history l.config (take l.step-index l.steps)) (held_by l.recent);
  times : l.result.items ≡ times_in l.config (take l.step-index l.steps);
}
