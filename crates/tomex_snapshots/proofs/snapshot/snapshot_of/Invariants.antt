-- What the steps so far show.
use Rattle.std.proofs.Common.{take}
use Rattle.tomex_snapshots.specs.Entries.{history_of}
use Rattle.tomex_snapshots.specs.Kept.{IsSnapshot}
use Rattle.tomex_snapshots.proofs.snapshot.snapshot_of.Given as goal

abbrev pub invariant-loop-entry : goal.invariant-loop-entry
invariant-loop-entry l = IsSnapshot l.by l.at (history_of (take l.entry-index l.entries)) l.snapshot
