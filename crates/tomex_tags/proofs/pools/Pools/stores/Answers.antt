use Rattle.tomex_tags.proofs.Serving.{are_stores, places_of_stores}
use Rattle.tomex_tags.proofs.pools.Pools.stores.Goals as goal

pub returns-clause-set : goal.returns-clause-set
returns-clause-set c = rw (← c.self.view_is)
    (are_stores _ c.self.inside.busy _ c.both.result c.self.inside.issue_numbers c.self.invariant.filled
    c.self.invariant.own places_of_stores c.both.ensures)
