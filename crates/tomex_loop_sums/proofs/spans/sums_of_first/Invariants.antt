-- The sums so far.
use Rattle.std.proofs.Common.{ℕ, ◌+◌, ◌≡◌, ◌≤◌, length, slice_index, sum, take}
use Rattle.tomex_loop_sums.proofs.spans.sums_of_first.Given as goal

abbrev pub invariant-loop-number : goal.invariant-loop-number
invariant-loop-number g l = record {
  count : length l.sums.items ≡ l.number-index + 1;
  all : l.sum ≡ sum (take l.number-index l.numbers);
  each : (k : ℕ) → k ≤ l.number-index → slice_index l.sums.items k ≡ sum (take k l.numbers);
}
