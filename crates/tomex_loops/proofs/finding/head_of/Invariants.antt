-- The first so far.
use Rattle.std.proofs.Common.{◌≡◌, take}
use Rattle.tomex_loops.specs.Loops.{head_of}
use Rattle.tomex_loops.proofs.finding.head_of.Given as goal

abbrev pub invariant-loop-other : goal.invariant-loop-other
invariant-loop-other l = l.head ≡ head_of l.place (take l.other-index l.round)
