-- The pairs so far, and the remaining ones.
use Rattle.std.proofs.Common.{◌≡◌, ◌++◌, drop}
use Rattle.tomex_compare.specs.Groups.{with_entry}
use Rattle.tomex_compare.proofs.groups.with_entry.Given as goal

abbrev pub invariant-loop-pair : goal.invariant-loop-pair
invariant-loop-pair g l =
    l.kept.items ++ with_entry l.surveyed (drop l.pair-index l.pairs) l.part l.entry
    ≡ with_entry l.surveyed l.pairs l.part l.entry
