-- The words so far have been noted.
use Rattle.std.proofs.Common.{◌*◌}
use Rattle.tomex_floor.specs.Kept.{AreAfter, below}
use Rattle.tomex_floor.proofs.accesses.Accesses.note_bytes.Given as goal

abbrev pub invariant-loop-word : goal.invariant-loop-word
invariant-loop-word g l =
    AreAfter l.fn.bytes.from (below l.fn.bytes.from l.fn.bytes.to (4 * l.word)) l.is_store l.finishes l.fn.self.by_word
    l.self.by_word
