-- The bytes so far have been noted.
use Rattle.tomex_stretches.specs.Kept.{AreNoted}
use Rattle.tomex_stretches.proofs.accesses.Accesses.note_bytes.Given as goal

abbrev pub invariant-loop-byte : goal.invariant-loop-byte
invariant-loop-byte g l =
    AreNoted l.fn.bytes.from l.byte l.is_store l.finish l.fn.self.by_byte l.self.by_byte
