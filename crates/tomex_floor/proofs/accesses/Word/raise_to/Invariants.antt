-- The latest finishes are raised to those that are waited for at the bytes of the lanes so far.
use Rattle.std.proofs.Common.{◌≡◌, ◌<◌, ℕ}
use Rattle.std.specs.Prelude.{slice_index}
use Rattle.tomex_floor.specs.Kept.{raised}
use Rattle.tomex_floor.proofs.accesses.Word.raise_to.Given as goal

abbrev pub invariant-loop-lane : goal.invariant-loop-lane
invariant-loop-lane l = (n : ℕ) → n < 4
    → slice_index l.latest n ≡ raised n l.self l.first l.fn.bytes l.is_store l.lane (slice_index l.fn.latest n)
