use Rattle.tomex_cycle.proofs.Startable.{AreCleared}
use Rattle.tomex_cycle.proofs.starts.clear_among.Given as goal

-- all except the rest have been tested
abbrev pub invariant-members : goal.invariant-members
invariant-members l = AreCleared l.pools l.cycle l.waiting l.rest l.clear

abbrev pub decreases-members : goal.decreases-members
decreases-members l = l.rest
