use Rattle.tomex_membuf.proofs.Older.{AreLooked}
use Rattle.tomex_membuf.proofs.order.passes.Given as goal

-- the older ones that were visited let it pass
abbrev pub invariant-members : goal.invariant-members
invariant-members l = AreLooked l.pools.slots l.pools.issue_numbers l.issue_number l.rest l.station l.cycle

abbrev pub decreases-members : goal.decreases-members
decreases-members l = l.rest
