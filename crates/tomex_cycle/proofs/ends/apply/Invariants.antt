use Rattle.tomex_cycle.proofs.Words.{◌≡◌, length}
use Rattle.tomex_cycle.specs.Starts.{AreLow}
use Rattle.tomex_cycle.proofs.EndsLoops.{AreApplied}
use Rattle.tomex_cycle.proofs.ends.apply.Given as goal

-- all except the rest have ended, and the others have received their results
abbrev pub invariant-members : goal.invariant-members
invariant-members l = AreLow l.picked → length l.fn.pools.slots ≡ 96
    → AreApplied l.picked l.rest l.fn.pools l.pools l.fn.registers l.registers

abbrev pub decreases-members : goal.decreases-members
decreases-members l = l.rest
