use Rattle.std.proofs.Common.{arith, refl}
use Rattle.tomex_bus.proofs.Bits.{member_some}
use Rattle.tomex_bus.proofs.Picking.{all_taken, none_made, one_more, taken_some}
use Rattle.tomex_bus.proofs.arbiter.pick_in_order.Goals as goal

pub returns-then-rest-eq0-clause-picked : goal.returns-then-rest-eq0-clause-picked
returns-then-rest-eq0-clause-picked c =
    all_taken c.args.ready c.args.issue_numbers.now c.loop-turn.turn c.args.n c.loop-turn.rest c.loop-turn.picked
    c.loop-turn.invariant.made c.if-rest-eq0.true (let a = c.loop-turn-test.true in omega arith)

pub returns-then-rest-eq0-clause-some : goal.returns-then-rest-eq0-clause-some
returns-then-rest-eq0-clause-some c =
    λ l apart. taken_some c.args.ready c.loop-turn.turn c.loop-turn.rest c.loop-turn.picked c.loop-turn.invariant.first
    c.loop-turn.invariant.some c.if-rest-eq0.true apart

pub loop-turn-init : goal.loop-turn-init
loop-turn-init c = record {
  made = none_made c.args.ready c.args.issue_numbers.now;
  first = λ e. refl;
  some = λ l. absurd (omega arith);
}

pub loop-turn-preserved : goal.loop-turn-preserved
loop-turn-preserved c = record {
  made = one_more c.args.ready c.args.issue_numbers.now c.loop-turn.turn c.loop-turn.rest c.loop-turn.picked
      c.oldest-number.result c.without-rest.result c.with-picked.result c.loop-turn.invariant.made
      c.oldest-number.ensures.below c.oldest-number.ensures.member c.oldest-number.ensures.least
      c.without-rest.ensures.others c.with-picked.ensures;
  first = λ e. absurd (omega arith);
  some = λ l. member_some c.with-picked.result c.oldest-number.result c.with-picked.ensures.same;
}
