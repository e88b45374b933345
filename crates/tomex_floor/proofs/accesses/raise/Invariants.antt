-- The numbers so far are raised, and the rest are as they were.
use Rattle.std.proofs.Common.{◌≡◌, ◌<◌, ◌≤◌, ℕ, max}
use Rattle.std.specs.Prelude.{slice_index}
use Rattle.tomex_floor.proofs.accesses.raise.Given as goal

abbrev pub invariant-loop-n : goal.invariant-loop-n
invariant-loop-n l = record {
  raised : (i : ℕ) → i < l.n → slice_index l.numbers i ≡ max (slice_index l.others i) (slice_index l.fn.numbers i);
  rest : (i : ℕ) → l.n ≤ i → slice_index l.numbers i ≡ slice_index l.fn.numbers i;
}
