use Rattle.tomex_cycle.proofs.Startable.{ready_for}
use Rattle.tomex_cycle.proofs.starts.startable.Goals as goal

pub returns-clause-startable : goal.returns-clause-startable
returns-clause-startable c = λ cycle. ready_for c.args.pools.now cycle c.waiters_for.result c.args.unit
    c.waiters_for.ensures.busy c.waiters_for.ensures.set c.requires
