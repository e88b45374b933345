-- The changes of the steps so far.
use Rattle.std.proofs.Common.{◌≡◌, ◌++◌, take}
use Rattle.std.specs.List.{flat_map}
use Rattle.tomex_konata.specs.Kept.{changes_of}
use Rattle.tomex_konata.proofs.events.push_all_changes.Given as goal

abbrev pub invariant-loop-entry : goal.invariant-loop-entry
invariant-loop-entry g l = l.events.items ≡ l.fn.events.items
    ++ flat_map (changes_of l.last) (take l.entry-index l.entries)
