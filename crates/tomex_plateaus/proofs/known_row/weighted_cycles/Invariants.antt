-- The cycles of the programs so far, and those of the rest, are all that are counted.
use Rattle.tomex_plateaus.proofs.Looking.{IsCounting}
use Rattle.tomex_plateaus.proofs.known_row.weighted_cycles.Given as goal

abbrev pub invariant-loop-place : goal.invariant-loop-place
invariant-loop-place g l = IsCounting l.programs l.totals l.made l.place l.cycles l.left
