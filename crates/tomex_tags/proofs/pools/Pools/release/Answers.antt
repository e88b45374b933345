use Rattle.tomex_tags.proofs.Listening.{none_listens}
use Rattle.tomex_tags.proofs.Slots.{filled_by, set_place, said_without}
use Rattle.tomex_tags.proofs.pools.Pools.release.Goals as goal

pub invariant_of-self : goal.invariant_of-self
invariant_of-self c = rw c.put.ensures
    (filled_by c.without-self-inside.result c.self.inside.issue_numbers c.index-self-place.result
    c.self.inside.listeners.sets c.self.invariant c.requires c.self.invariant.filled.order_count
    c.without-self-inside.type_inv
    (said_without c.self.inside.busy c.without-self-inside.result c.args.place c.without-self-inside.ensures.others)
    c.clear.ensures tt (none_listens c.args.place c.self.inside.listeners.sets))

pub returns-clause-slots : goal.returns-clause-slots
returns-clause-slots c = rw (c.put.ensures, ← c.self.view_is)
    (set_place c.self.inside.pools c.args.place c.index-self-place.result _ c.self.invariant.six c.requires)
