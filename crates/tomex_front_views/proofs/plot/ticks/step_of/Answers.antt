-- The first round number that is enough, power of ten by power of ten.
use Rattle.tomex_front_views.proofs.Ticks.{five_times, from_one, later, once, positive_power, ten_times, twice}
use Rattle.std.proofs.Common.{refl}
use Rattle.tomex_front_views.proofs.plot.ticks.step_of.Goals as goal

pub loop-zeros-init : goal.loop-zeros-init
loop-zeros-init c = record { power = refl; step = from_one c.args.far }

pub returns-then-is_enough-clause-positive : goal.returns-then-is_enough-clause-positive
returns-then-is_enough-clause-positive c = positive_power c.loop-zeros._zeros _ c.loop-zeros.invariant.power

pub returns-then-is_enough-clause-is : goal.returns-then-is_enough-clause-is
returns-then-is_enough-clause-is c =
    once c.args.far c.loop-zeros._zeros c.loop-zeros.power c.loop-zeros-test.true c.loop-zeros.invariant.power
    c.loop-zeros.invariant.step _ c.is_enough.ensures c.if-is_enough.true

pub returns-then-is_enough-2-clause-is : goal.returns-then-is_enough-2-clause-is
returns-then-is_enough-2-clause-is c =
    twice c.args.far c.loop-zeros._zeros c.loop-zeros.power c.loop-zeros-test.true c.loop-zeros.invariant.power
    c.loop-zeros.invariant.step _ c.is_enough.ensures c.if-is_enough.false _ c.is_enough-in-loop-zeros.ensures
    c.if-is_enough-2.true

pub returns-then-is_enough-3-clause-is : goal.returns-then-is_enough-3-clause-is
returns-then-is_enough-3-clause-is c =
    five_times c.args.far c.loop-zeros._zeros c.loop-zeros.power c.loop-zeros-test.true c.loop-zeros.invariant.power
    c.loop-zeros.invariant.step _ c.is_enough.ensures c.if-is_enough.false _ c.is_enough-in-loop-zeros.ensures
    c.if-is_enough-2.false _ c.is_enough-in-loop-zeros-2.ensures c.if-is_enough-3.true

pub loop-zeros-preserved : goal.loop-zeros-preserved
loop-zeros-preserved c = record {
  power = ten_times c.loop-zeros._zeros c.loop-zeros.power _ c.loop-zeros.invariant.power refl;
  step = later c.args.far c.loop-zeros._zeros c.loop-zeros.power c.loop-zeros-test.true c.loop-zeros.invariant.power
      c.loop-zeros.invariant.step _ c.is_enough.ensures c.if-is_enough.false _ c.is_enough-in-loop-zeros.ensures
      c.if-is_enough-2.false _ c.is_enough-in-loop-zeros-2.ensures c.if-is_enough-3.false;
}

pub returns-clause-positive : goal.returns-clause-positive
returns-clause-positive c = positive_power c.loop-zeros._zeros _ c.loop-zeros.invariant.power
