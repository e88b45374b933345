use Rattle.tomex_tags.proofs.Entering.{entered_with, joined_as}
use Rattle.tomex_tags.proofs.wait_sets.join.Goals as goal

pub returns-then-member : goal.returns-then-member
returns-then-member c = entered_with c.args.set.now c.with.result c.args.place c.args.member c.if-member.true
    c.with.ensures

pub returns-else-member : goal.returns-else-member
returns-else-member c = rw c.if-member.false (joined_as c.args.set.now c.args.place c.requires.out)
