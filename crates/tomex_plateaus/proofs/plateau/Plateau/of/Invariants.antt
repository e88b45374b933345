-- The ends of the intervals so far are set.
use Rattle.tomex_plateaus.proofs.Comparing.{AreSplit}
use Rattle.tomex_plateaus.proofs.plateau.Plateau.of.Given as goal

abbrev pub invariant-loop-place : goal.invariant-loop-place
invariant-loop-place l = AreSplit l.interval-items l.place l.least l.most
