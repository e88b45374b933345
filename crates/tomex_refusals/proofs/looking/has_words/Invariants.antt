-- The words stand at no place so far.
use Rattle.tomex_refusals.proofs.Standing.{NoneBefore}
use Rattle.tomex_refusals.proofs.looking.has_words.Given as goal

abbrev pub invariant-loop-place : goal.invariant-loop-place
invariant-loop-place l = NoneBefore l.text l.words l.place
