-- So far they are as far ahead.
use Rattle.tomex_states.specs.Reuse.{AreAlikeTo}
use Rattle.tomex_states.proofs.compare.are_alike.Given as goal

abbrev pub invariant-loop-place : goal.invariant-loop-place
invariant-loop-place l = AreAlikeTo l.place l.here l.there l.one l.other
