-- The steps so far, and those to come.
use Rattle.std.proofs.Common.{◌≡◌, ◌+◌, ◌++◌, drop}
use Rattle.tomex_snapshots.specs.Entries.{entries_from}
use Rattle.tomex_snapshots.proofs.entries.entries_of.Given as goal

abbrev pub invariant-loop-index : goal.invariant-loop-index
invariant-loop-index g l =
    l.entries.items ++ entries_from (l.index + 1) l.from (drop l.index l.steps) (drop l.index l.times)
    (drop l.index l.waits)
    ≡ entries_from 1 1 l.steps l.times l.waits
