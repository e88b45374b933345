-- No step so far is a branch.
use Rattle.std.proofs.Common.{ℕ, ◌≡◌, ◌<◌, ◌≤◌, slice_index_or, false}
use Rattle.tomex_timing.specs.declared.recent.Facts.{Facts}
use Rattle.tomex_repeats.proofs.cut.end_of_block.Given as goal

abbrev pub invariant-loop-place : goal.invariant-loop-place
invariant-loop-place l =
    (p : ℕ) (z : Facts) → l.first ≤ p → p < l.place → (slice_index_or l.facts p z).is_branch ≡ false
