-- The symbols so far are swept.
use Rattle.std.proofs.Common.{◌-◌, length}
use Rattle.tomex_symbols.specs.Sweep.{IsSwept}
use Rattle.tomex_symbols.proofs.sweep.Sweep.begin_up_to.Given as goal

abbrev pub invariant-loop-self : goal.invariant-loop-self
invariant-loop-self g l = IsSwept l.sorted l.self.begun l.self.nested.items l.self.label l.self.latest l.pc

abbrev pub decreases-loop-self : goal.decreases-loop-self
decreases-loop-self g l = length l.sorted - l.self.begun
