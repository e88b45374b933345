-- The groups so far are counted, and the others are as they were.
use Rattle.std.proofs.Common.{ℕ, ◌≡◌, ◌<◌, ◌≤◌, [], None, length, map, slice_index_or}
use Rattle.tomex_loop_sums.specs.Columns.{CountsAre}
use Rattle.tomex_loop_sums.proofs.turns.counts_of.Given as goal

abbrev pub invariant-loop-group : goal.invariant-loop-group
invariant-loop-group g l = record {
  count : length l.counts.items ≡ l.group-index;
  left : (k : ℕ) (d : _) → l.group-index ≤ k → slice_index_or l.groups k d ≡ slice_index_or l.initial.groups k d;
  counts : (n : ℕ) → n < l.group-index
      → CountsAre (slice_index_or (map (λ group. group.items) l.initial.groups) n [])
      (slice_index_or l.counts.items n None);
}
