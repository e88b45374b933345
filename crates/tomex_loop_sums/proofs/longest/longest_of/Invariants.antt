-- The longest of the visits so far.
use Rattle.std.proofs.Common.{ℕ, ◌≡◌, ◌<◌, None, length, take, slice_index_or}
use Rattle.tomex_loop_sums.specs.Longest.{IsLongest}
use Rattle.tomex_loop_sums.proofs.longest.longest_of.Given as goal

abbrev pub invariant-loop-v : goal.invariant-loop-v
invariant-loop-v g l = record {
  count : length l.longest.items ≡ l.count;
  longest : (n : ℕ) → n < l.count
      → IsLongest n (take l.v l.loops) l.rounds (slice_index_or l.longest.items n None);
}
