-- The places so far.
use Rattle.std.proofs.Common.{◌≡◌, take}
use Rattle.tomex_loops.specs.Ways.{places_of}
use Rattle.tomex_loops.proofs.finding.copy_places.Given as goal

abbrev pub invariant-loop-stop : goal.invariant-loop-stop
invariant-loop-stop g l = l.places.items ≡ places_of (take l.stop-index l.stops)
