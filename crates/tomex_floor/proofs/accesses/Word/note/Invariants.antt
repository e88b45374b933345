-- The lanes so far are noted, and the rest are as they were.
use Rattle.std.proofs.Common.{◌≡◌, ◌<◌, ◌≤◌, ◌+◌, ℕ}
use Rattle.std.specs.Prelude.{slice_index}
use Rattle.tomex_floor.specs.Kept.{touched_after, touched_of}
use Rattle.tomex_floor.proofs.accesses.Word.note.Given as goal

abbrev pub invariant-loop-lane : goal.invariant-loop-lane
invariant-loop-lane l = record {
  noted : (n i : ℕ) → n < 4 → i < l.lane → touched_of n l.self i
      ≡ touched_after l.fn.bytes.from l.fn.bytes.to l.is_store (slice_index l.finishes n) (l.first + i)
      (touched_of n l.fn.self i);
  rest : (n i : ℕ) → l.lane ≤ i → touched_of n l.self i ≡ touched_of n l.fn.self i;
}
