-- The groups so far, and the remaining ones.
use Rattle.std.proofs.Common.{◌≡◌, ◌++◌, drop, map}
use Rattle.tomex_compare.specs.Groups.{entry_group}
use Rattle.tomex_compare.proofs.groups.push_entries.Given as goal

abbrev pub invariant-loop-entry : goal.invariant-loop-entry
invariant-loop-entry g l =
    l.groups.items ++ map (entry_group l.surveyed l.pairs l.part) (drop l.entry-index l.entries)
    ≡ l.fn.groups.items ++ map (entry_group l.surveyed l.pairs l.part) l.entries
