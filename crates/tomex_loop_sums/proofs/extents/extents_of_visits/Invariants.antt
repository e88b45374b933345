-- What the visits have of those that are done.
use Rattle.std.proofs.Common.{ℕ, ◌≡◌, ◌<◌, None, length, slice_index_or}
use Rattle.tomex_loop_sums.specs.Extents.{IsExtent}
use Rattle.tomex_loop_sums.proofs.Chains.{is_found}
use Rattle.tomex_loop_sums.proofs.extents.extents_of_visits.Given as goal

abbrev pub invariant-loop-v : goal.invariant-loop-v
invariant-loop-v g l = record {
  count : length l.extents.items ≡ length l.within;
  extents : (v : ℕ) → v < length l.within
      → IsExtent (is_found l.within l.here l.v v) l.addresses (slice_index_or l.extents.items v None);
}
