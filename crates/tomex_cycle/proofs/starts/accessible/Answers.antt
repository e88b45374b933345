use Rattle.tomex_cycle.proofs.IssueOrder.{alone_clear}
use Rattle.tomex_cycle.proofs.Startable.{all_cleared, all_of, all_waiting, first_cleared, found_waiting}
use Rattle.tomex_rvdec.specs.declared.pool.UnitId.TheVariants as units
use Rattle.tomex_cycle.proofs.starts.accessible.Goals as goal

-- none waits
pub returns-then-waiting-eq0-clause-startable : goal.returns-then-waiting-eq0-clause-startable
returns-then-waiting-eq0-clause-startable c =
    all_cleared c.waiters_for-waiting.ensures.busy c.waiters_for-waiting.ensures.set
    (first_cleared c.args.pools.now c.args.cycle c.waiters_for-waiting.result c.waiters_for-waiting.ensures.set)
    c.if-waiting-eq0.true

pub returns-then-waiting-eq0-clause-wait : goal.returns-then-waiting-eq0-clause-wait
returns-then-waiting-eq0-clause-wait c = found_waiting c.waiters_for-waiting.ensures.set
    (first_cleared c.args.pools.now c.args.cycle c.waiters_for-waiting.result c.waiters_for-waiting.ensures.set)

-- none is in another's way
pub returns-then-is_alone-clause-startable : goal.returns-then-is_alone-clause-startable
returns-then-is_alone-clause-startable c =
    all_waiting c.args.pools.now c.args.cycle c.waiters_for-waiting.result c.waiters_for-waiting.ensures.busy
    c.waiters_for-waiting.ensures.set (λ place next s older younger l here access by. alone_clear c.args.pools.now.slots
    older younger place next s (c.is_alone.ensures.0 c.if-is_alone.true) l here access by)

pub returns-then-is_alone-clause-wait : goal.returns-then-is_alone-clause-wait
returns-then-is_alone-clause-wait c =
    all_of units.Mem c.args.pools.now.slots c.waiters_for-waiting.result c.waiters_for-waiting.ensures.set
