use Rattle.std.proofs.Common.{arith}
use Rattle.tomex_bus.proofs.Turning.{later_is, none_due, round_is}
use Rattle.tomex_bus.proofs.wheel.Wheel.next.Goals as goal

pub returns-then-later-ne0 : goal.returns-then-later-ne0
returns-then-later-ne0 c = later_is c.args.self.now _ _ _ c.lowest.result c.self.view_is c.self.invariant (omega arith)
    c.lowest.ensures.member c.lowest.ensures.least

pub returns-then-self-ne0 : goal.returns-then-self-ne0
returns-then-self-ne0 c = round_is c.args.self.now _ _ _ c.lowest-then-self-ne0.result c.self.view_is c.self.invariant
    c.if-later-ne0.false c.lowest-then-self-ne0.ensures.below c.lowest-then-self-ne0.ensures.member
    c.lowest-then-self-ne0.ensures.least

pub returns : goal.returns
returns c = none_due c.args.self.now _ _ _ c.self.view_is c.self.invariant c.if-self-ne0.false
