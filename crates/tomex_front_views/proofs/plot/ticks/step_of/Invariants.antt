-- The power of ten of this turn; the steps before it weren't enough.
use Rattle.std.proofs.Common.{◌≡◌, ◌^◌}
use Rattle.tomex_front_views.specs.Axes.{step_of}
use Rattle.tomex_front_views.proofs.Ticks.{step_from}
use Rattle.tomex_front_views.proofs.plot.ticks.step_of.Given as goal

abbrev pub invariant-loop-zeros : goal.invariant-loop-zeros
invariant-loop-zeros l = record {
  power : l.power ≡ 10 ^ l._zeros;
  step : step_from l.far l._zeros ≡ step_of l.far;
}
