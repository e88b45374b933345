-- The changes so far, and those of the remaining cycles.
use Rattle.std.proofs.Common.{◌≡◌, ◌++◌, drop, map}
use Rattle.tomex_konata.specs.Kept.{change_cycles, change_in, changes_of, once}
use Rattle.tomex_konata.proofs.events.push_changes.Given as goal

abbrev pub invariant-loop-place : goal.invariant-loop-place
invariant-loop-place g l =
    l.events.items ++ map (change_in l.entry.id) (once (drop l.place (change_cycles l.last l.entry)))
    ≡ l.fn.events.items ++ changes_of l.last l.entry
