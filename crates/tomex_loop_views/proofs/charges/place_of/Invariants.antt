-- The charges so far have no fewer cycles.
use Rattle.tomex_loop_views.proofs.Insertion.{AreNoFewer}
use Rattle.tomex_loop_views.proofs.charges.place_of.Given as goal

abbrev pub invariant-loop-place : goal.invariant-loop-place
invariant-loop-place l = AreNoFewer l.charge l.charges l.place
