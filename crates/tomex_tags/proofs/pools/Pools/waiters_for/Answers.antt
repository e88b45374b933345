use Rattle.tomex_tags.proofs.Serving.{wait_for}
use Rattle.tomex_tags.proofs.pools.Pools.waiters_for.Goals as goal

pub returns-clause-set : goal.returns-clause-set
returns-clause-set c = wait_for c.args.self.now.slots c.args.self.now.busy c.waiters.result c.places_served_by.result
    c.both.result c.args.self.now.issue_numbers c.args.unit c.waiters.ensures.busy c.waiters.ensures.own
    c.waiters.ensures.set c.places_served_by.ensures c.both.ensures
