use Rattle.std.proofs.Common.{◌≡◌, ◌<◌, ℕ, None, slice_index_or, length}
use Rattle.tomex_tags.specs.Contents.{busy_at}
use Rattle.tomex_tags.proofs.pools.Pools.busy_entries.Given as goal

abbrev pub invariant-loop-place : goal.invariant-loop-place
invariant-loop-place l = record {
  count : length l.busy ≡ 96;
  each : (x : ℕ) → x < l.place → slice_index_or l.busy x None ≡ busy_at l.self.slots x;
}
