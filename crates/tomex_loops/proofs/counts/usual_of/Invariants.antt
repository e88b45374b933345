-- The number that occurs most often so far, and how often the last one does.
use Rattle.tomex_loops.proofs.AtPlaces.{IsSoFar}
use Rattle.tomex_loops.proofs.counts.usual_of.Given as goal

abbrev pub invariant-loop-k : goal.invariant-loop-k
invariant-loop-k l = IsSoFar l.sorted l.k l.so_far.same l.so_far.alike l.so_far.usual
