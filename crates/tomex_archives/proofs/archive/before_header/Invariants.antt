-- The lines so far are in the text.
use Rattle.std.proofs.Common.{◌-◌, ◌≤◌, length}
use Rattle.tomex_archives.proofs.archive.before_header.Given as goal

abbrev pub invariant-loop-end : goal.invariant-loop-end
invariant-loop-end l = l.end ≤ length l.text

abbrev pub decreases-loop-end : goal.decreases-loop-end
decreases-loop-end l = length l.text - l.end
