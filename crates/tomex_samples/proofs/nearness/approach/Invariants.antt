use Rattle.tomex_samples.proofs.Approached.{AreApproached}
use Rattle.tomex_samples.proofs.nearness.approach.Given as goal

abbrev pub invariant-loop-k : goal.invariant-loop-k
invariant-loop-k g l = AreApproached l.k l.counts.items l.stretches l.leader l.fn.near.items l.near.items
