-- The spans so far are added.
use Rattle.std.proofs.Common.{ℕ, ◌≡◌, ◌<◌, length, slice_index, take}
use Rattle.tomex_loop_sums.proofs.Spanned.{IsSummed}
use Rattle.tomex_loop_sums.proofs.spans.sums_in_spans.Given as goal

abbrev pub invariant-loop-span : goal.invariant-loop-span
invariant-loop-span g l = record {
  sums : length l.sums.items ≡ l.count;
  ends : length l.ends.items ≡ l.count;
  summed : (n : ℕ) → n < l.count → IsSummed n (take l.span-index l.spans) l.numbers
      (slice_index l.sums.items n) (slice_index l.ends.items n);
}
