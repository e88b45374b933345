-- The entries that are gathered after the steps so far.
use Rattle.tomex_konata.proofs.Steps.{AreGathered}
use Rattle.tomex_konata.proofs.entries.entries_of.Given as goal

abbrev pub invariant-loop-id : goal.invariant-loop-id
invariant-loop-id g l = AreGathered l.steps l.times l.id l.entries.items l.writers.of
