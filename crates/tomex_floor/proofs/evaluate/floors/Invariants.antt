-- The state kept is that of the floors of the steps so far.
use Rattle.std.proofs.Common.{◌≡◌, length, reverse, take}
use Rattle.tomex_config.specs.Configuration.{latency_of}
use Rattle.tomex_floor.specs.Kept.{AreLatest, AreTouched, histories}
use Rattle.tomex_floor.proofs.evaluate.floors.Given as goal

abbrev pub invariant-loop-step : goal.invariant-loop-step
invariant-loop-step g l = record {
  count : length l.latest ≡ 4;
  latest : AreLatest (histories (latency_of l.config) (reverse (take l.step-index l.run))) l.latest;
  accesses : AreTouched (histories (latency_of l.config) (reverse (take l.step-index l.run))) l.accesses.by_word;
}
