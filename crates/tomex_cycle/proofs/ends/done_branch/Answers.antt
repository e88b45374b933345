use Rattle.tomex_cycle.proofs.KnownEnds.{no_branch, one_branch}
use Rattle.tomex_cycle.proofs.ends.done_branch.Goals as goal

pub returns-then-branches-eq0 : goal.returns-then-branches-eq0
returns-then-branches-eq0 c = no_branch c.args.pools.now.slots c.args.cycle c.args.due c.both-branches.result
    c.places_served_by.result c.requires c.places_served_by.ensures c.both-branches.ensures c.if-branches-eq0.true

pub returns : goal.returns
returns c = one_branch c.args.pools.now.slots c.args.cycle c.args.due c.both-branches.result c.places_served_by.result
    c.lowest.result c.requires c.places_served_by.ensures c.both-branches.ensures c.lowest.ensures.below
    c.lowest.ensures.member
