-- The items so far are in their groups.
use Rattle.std.proofs.Common.{ℕ, ◌≡◌, ◌<◌, [], length, map, take, slice_index_or}
use Rattle.tomex_loop_sums.specs.Groups.{with_key}
use Rattle.tomex_loop_sums.proofs.groups.grouped.Given as goal

abbrev pub invariant-loop-k : goal.invariant-loop-k
invariant-loop-k g l = record {
  count : length l.groups.items ≡ l.count;
  groups : (n : ℕ) → n < l.count → slice_index_or (map (λ group. group.items) l.groups.items) n []
      ≡ with_key n (take l.k l.keys) (take l.k l.items);
}
