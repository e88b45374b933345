-- The pairs so far, and the remaining ones.
use Rattle.std.proofs.Common.{◌≡◌, ◌++◌, drop, length, List}
use Rattle.tomex_pareto.specs.declared.front_row.FrontRow.{FrontRow}
use Rattle.tomex_compare.specs.Groups.{AreMarks, on_front}
use Rattle.tomex_compare.proofs.groups.marked.Given as goal

abbrev pub invariant-loop-pair : goal.invariant-loop-pair
invariant-loop-pair l = (front : List FrontRow) → AreMarks front (length l.marks) l.marks
    → l.kept.items ++ on_front front (drop l.pair-index l.pairs) ≡ on_front front l.pairs
