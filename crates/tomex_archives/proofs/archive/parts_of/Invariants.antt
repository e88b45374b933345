-- The text is a comment, the parts so far and the rest.
use Rattle.std.proofs.Common.{length}
use Rattle.tomex_archives.proofs.Joins.{HasParts}
use Rattle.tomex_archives.proofs.archive.parts_of.Given as goal

abbrev pub invariant-loop-rest : goal.invariant-loop-rest
invariant-loop-rest l = HasParts l.text l.parts.items l.rest

abbrev pub decreases-loop-rest : goal.decreases-loop-rest
decreases-loop-rest l = length l.rest
