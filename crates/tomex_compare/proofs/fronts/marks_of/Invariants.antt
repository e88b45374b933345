-- The rows of the front so far are marked.
use Rattle.std.proofs.Common.{take}
use Rattle.tomex_compare.specs.Groups.{AreMarks}
use Rattle.tomex_compare.proofs.fronts.marks_of.Given as goal

abbrev pub invariant-loop-row : goal.invariant-loop-row
invariant-loop-row l = AreMarks (take l.row-index l.front) l.count l.marks.items
