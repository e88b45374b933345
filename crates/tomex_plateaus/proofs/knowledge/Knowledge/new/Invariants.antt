-- Nothing is known about the programs so far.
use Rattle.std.proofs.Common.{◌≡◌, take}
use Rattle.tomex_plateaus.specs.Knowledge.{nothing_known}
use Rattle.tomex_plateaus.proofs.knowledge.Knowledge.new.Given as goal

abbrev pub invariant-loop-program : goal.invariant-loop-program
invariant-loop-program g l = l.lists.items ≡ nothing_known (take l.program-index l.programs)
