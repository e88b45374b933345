use Rattle.tomex_tags.proofs.Serving.{are_addressed}
use Rattle.tomex_tags.proofs.pools.Pools.places_with_address.Goals as goal

pub returns-clause-set : goal.returns-clause-set
returns-clause-set c = rw (← c.self.view_is)
    (are_addressed _ c.self.inside.busy c.places_served_by.result c.self.inside.wait_sets.lacking c.both.result
    c.difference.result c.self.inside.issue_numbers c.self.invariant.filled c.self.invariant.own
    c.self.invariant.wait_sets.lacking c.places_served_by.ensures c.both.ensures c.difference.ensures)
