-- The numbers so far are the plateau's.
use Rattle.std.proofs.Common.{◌≡◌}
use Rattle.tomex_plateaus.proofs.Comparing.{fits_below}
use Rattle.tomex_plateaus.proofs.plateau.Plateau.has_numbers.Given as goal

abbrev pub invariant-loop-place : goal.invariant-loop-place
invariant-loop-place l = l.has_all ≡ fits_below l.self l.numbers l.place
