-- The steps so far are noted.
use Rattle.tomex_repeats.proofs.Noted.{AreNotedTo}
use Rattle.tomex_repeats.proofs.conflicts.Conflicts.note.Given as goal

abbrev pub invariant-loop-place : goal.invariant-loop-place
invariant-loop-place g l =
    AreNotedTo l.facts l.fn.self.masks.items l.from l.first l.place l.self.accesses.items l.self.masks.items
