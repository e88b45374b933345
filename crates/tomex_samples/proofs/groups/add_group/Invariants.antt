use Rattle.tomex_samples.specs.Near.{AreGroupSums}
use Rattle.tomex_samples.specs.Stretches.{Run}
use Rattle.tomex_samples.specs.Tallied.{AreOf}
use Rattle.tomex_samples.proofs.groups.add_group.Given as goal

abbrev pub invariant-loop-k : goal.invariant-loop-k
invariant-loop-k g l = (run : Run) → AreOf run l.stretches → AreGroupSums run l.near l.leader l.k l.sums
