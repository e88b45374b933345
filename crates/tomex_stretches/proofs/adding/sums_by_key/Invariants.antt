-- The steps so far are added.
use Rattle.std.proofs.Common.{ℕ, ◌≡◌, ◌<◌, length, take}
use Rattle.std.specs.Prelude.{is_none, slice_index}
use Rattle.tomex_stretches.specs.Cycles.{is_key, sum_where}
use Rattle.tomex_stretches.proofs.adding.sums_by_key.Given as goal

abbrev pub invariant-loop-k : goal.invariant-loop-k
invariant-loop-k g l = record {
  count : length l.sums.by_key.items ≡ l.count;
  by_key : (n : ℕ) → n < l.count
      → slice_index l.sums.by_key.items n ≡ sum_where (is_key n) (take l.k l.keys) (take l.k l.numbers);
  without : l.sums.without ≡ sum_where is_none (take l.k l.keys) (take l.k l.numbers);
}
