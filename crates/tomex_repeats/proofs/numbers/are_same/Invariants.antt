-- The steps so far are the same, and so are their masks.
use Rattle.std.proofs.Common.{ℕ, ◌≡◌, ◌+◌, ◌<◌, slice_index, slice_index_or}
use Rattle.tomex_timing.specs.declared.recent.Facts.{Facts}
use Rattle.tomex_repeats.specs.Blocks.{AreLike}
use Rattle.tomex_repeats.proofs.numbers.are_same.Given as goal

abbrev pub invariant-loop-step : goal.invariant-loop-step
invariant-loop-step l = record {
  like : (k : ℕ) (z : Facts) → k < l.step
      → AreLike (slice_index_or l.facts (l.a.first + k) z) (slice_index_or l.facts (l.b.first + k) z);
  masks : (k : ℕ) → k < l.step → slice_index l.masks (l.a.first + k) ≡ slice_index l.masks (l.b.first + k);
}
