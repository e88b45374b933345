use Rattle.tomex_cycle.specs.Starts.{AllInside, AreLow}
use Rattle.tomex_cycle.proofs.StartsBegun.{IsStored}
use Rattle.tomex_cycle.proofs.starts.write.Given as goal

-- the stores of all except the rest are performed
abbrev pub invariant-members : goal.invariant-members
invariant-members g l = AreLow l.picked → AllInside l.initial.memory l.picked l.pools.slots
    → IsStored l.pools.slots l.stores l.rest l.initial.memory l.memory

abbrev pub decreases-members : goal.decreases-members
decreases-members g l = l.rest
