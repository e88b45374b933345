use Rattle.std.proofs.lemmas.Grind.{common_steps}
use Rattle.std.proofs.Common.{Some, arith}
use Rattle.tomex_tags.specs.Operands.{only}
use Rattle.tomex_tags.proofs.Hearing.{first_heard, heard_more, heard_past}
use Rattle.tomex_tags.proofs.pools.Pools.hear.Goals as goal

pub members-init : goal.members-init
members-init c = first_heard c.args.from c.args.value c.listeners_to-rest.result c.args.self.now
    c.listeners_to-rest.ensures.busy c.listeners_to-rest.ensures.each

pub members-preserved-then-place-lt96 : goal.members-preserved-then-place-lt96
members-preserved-then-place-lt96 c =
    let without = c.without_lowest-rest.ensures.others c.lowest-place.result c.lowest-place.ensures.member
    c.lowest-place.ensures.least in
    heard_more (only c.args.from (Some c.args.value)) c.members.rest c.without_lowest-rest.result c.lowest-place.result
    c.args.self.now c.members.self c.hear_at.new.self c.members.invariant c.if-place-lt96.true
    c.lowest-place.ensures.member without
    c.hear_at.ensures.slots c.hear_at.ensures.busy c.hear_at.ensures.issue_numbers

pub members-preserved : goal.members-preserved
members-preserved c =
    let without = c.without_lowest-rest.ensures.others c.lowest-place.result c.lowest-place.ensures.member
    c.lowest-place.ensures.least in
    heard_past (only c.args.from (Some c.args.value)) c.members.rest c.without_lowest-rest.result c.lowest-place.result
    c.args.self.now c.members.self c.members.invariant (omega (arith, c.if-place-lt96.false)) without

pub forget-requires : goal.forget-requires
forget-requires = grind (arith, common_steps)
