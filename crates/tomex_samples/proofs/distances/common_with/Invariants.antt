use Rattle.std.proofs.Common.{◌≡◌, ℕ, List, drop, length}
use Rattle.tomex_samples.specs.Counts.{IsSparse}
use Rattle.tomex_samples.proofs.Overlap.{IsCommon}
use Rattle.tomex_samples.proofs.distances.common_with.Given as goal

abbrev pub invariant-loop-entry : goal.invariant-loop-entry
invariant-loop-entry l =
    (counts : List ℕ) → IsSparse l.row counts → length counts ≡ length l.sums
    → IsCommon l.common (drop l.entry-index l.row) l.times counts l.sums
