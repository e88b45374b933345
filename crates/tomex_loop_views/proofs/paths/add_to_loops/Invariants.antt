-- The cycles are added to those of the loops so far.
use Rattle.std.proofs.Common.{ℕ, ◌≡◌, ◌<◌, ◌≤◌, [], length, map, slice_index, slice_index_or}
use Rattle.tomex_loop_views.specs.Charges.{with_reason}
use Rattle.tomex_loop_views.proofs.paths.add_to_loops.Given as goal

abbrev pub invariant-loop-n : goal.invariant-loop-n
invariant-loop-n g l = record {
  count : length l.by_loop.items ≡ length l.fn.by_loop.items;
  added : (n : ℕ) → n < l.n → slice_index_or (map (λ charges. charges.items) l.by_loop.items) n []
      ≡ with_reason l.reason (slice_index l.cycles n)
      (slice_index_or (map (λ charges. charges.items) l.fn.by_loop.items) n []);
  left : (n : ℕ) → l.n ≤ n → slice_index_or (map (λ charges. charges.items) l.by_loop.items) n []
      ≡ slice_index_or (map (λ charges. charges.items) l.fn.by_loop.items) n [];
}
