-- What the visits have of the steps so far.
use Rattle.std.proofs.Common.{ℕ, ◌≡◌, ◌<◌, None, length, slice_index_or}
use Rattle.tomex_loop_sums.specs.Extents.{IsExtent}
use Rattle.tomex_loop_sums.proofs.Joining.{is_here}
use Rattle.tomex_loop_sums.proofs.extents.extents_here.Given as goal

abbrev pub invariant-loop-k : goal.invariant-loop-k
invariant-loop-k g l = record {
  count : length l.extents.items ≡ l.count;
  extents : (v : ℕ) → v < l.count
      → IsExtent (is_here l.here l.k v) l.addresses (slice_index_or l.extents.items v None);
}
