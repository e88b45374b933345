-- What the loops have of the visits so far.
use Rattle.std.proofs.Common.{ℕ, ◌≡◌, ◌<◌, None, length, slice_index_or}
use Rattle.tomex_loop_sums.specs.Extents.{IsExtent}
use Rattle.tomex_loop_sums.proofs.Chains.{is_in_first}
use Rattle.tomex_loop_sums.proofs.extents.extents_of.Given as goal

abbrev pub invariant-loop-v : goal.invariant-loop-v
invariant-loop-v g l = record {
  count : length l.extents.items ≡ l.count;
  extents : (n : ℕ) → n < l.count
      → IsExtent (is_in_first l.loops l.within l.here l.v n) l.addresses (slice_index_or l.extents.items n None);
}
