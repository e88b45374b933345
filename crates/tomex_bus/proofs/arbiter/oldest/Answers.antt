use Rattle.std.proofs.Common.{◌≡◌, true, arith, inl, ⊎_elim}
use Rattle.tomex_bus.specs.Sets.{has}
use Rattle.tomex_bus.proofs.Bits.{member_some}
use Rattle.tomex_bus.proofs.Members.{inside_left}
use Rattle.tomex_bus.proofs.Picking.{best_left}
use Rattle.tomex_bus.proofs.arbiter.oldest.Goals as goal

pub members-preserved-then-issue_numbers-number : goal.members-preserved-then-issue_numbers-number
members-preserved-then-issue_numbers-number c =
    let without = c.without_lowest-rest-in-members.ensures.others c.lowest-number.result c.lowest-number.ensures.member
    c.lowest-number.ensures.least in
    record {
      below = c.lowest-number.ensures.below;
      member = c.members.invariant.rest c.lowest-number.result c.lowest-number.ensures.below
          c.lowest-number.ensures.member;
      rest = inside_left c.args.set c.members.rest c.without_lowest-rest-in-members.result c.lowest-number.result
          c.members.invariant.rest without;
      least = best_left c.args.set c.members.rest c.without_lowest-rest-in-members.result c.lowest-number.result
          c.members.best c.lowest-number.result c.args.issue_numbers.now c.members.invariant.least without
          (omega (arith, c.if-issue_numbers-number.true)) (omega arith);
    }

pub members-preserved : goal.members-preserved
members-preserved c =
    let without = c.without_lowest-rest-in-members.ensures.others c.lowest-number.result c.lowest-number.ensures.member
    c.lowest-number.ensures.least in
    record {
      below = c.members.invariant.below;
      member = c.members.invariant.member;
      rest = inside_left c.args.set c.members.rest c.without_lowest-rest-in-members.result c.lowest-number.result
          c.members.invariant.rest without;
      least = best_left c.args.set c.members.rest c.without_lowest-rest-in-members.result c.lowest-number.result
          c.members.best c.members.best c.args.issue_numbers.now c.members.invariant.least without (omega arith)
          (omega (arith, c.if-issue_numbers-number.false));
    }

pub members-init : goal.members-init
members-init c =
    let without = c.without_lowest-rest.ensures.others c.lowest-best.result c.lowest-best.ensures.member
    c.lowest-best.ensures.least in
    record {
      below = c.lowest-best.ensures.below;
      member = c.lowest-best.ensures.member;
      rest = inside_left c.args.set c.args.set c.without_lowest-rest.result c.lowest-best.result (λ i low is. is)
          without;
      least = best_left c.args.set c.args.set c.without_lowest-rest.result c.lowest-best.result c.lowest-best.result
          c.lowest-best.result c.args.issue_numbers.now (λ i low is. inl is) without (omega arith) (omega arith);
    }

pub returns-clause-least : goal.returns-clause-least
returns-clause-least c = λ i low is.
    ⊎_elim (λ (left : has c.members.rest i ≡ true). absurd (member_some c.members.rest i left c.members-test.false))
    (λ h. h) (c.members.invariant.least i low is)
