use Rattle.std.proofs.Common.{◌≡◌, ℕ, List, drop, length}
use Rattle.tomex_samples.specs.Counts.{IsSparse}
use Rattle.tomex_samples.proofs.Overlap.{IsAdding}
use Rattle.tomex_samples.proofs.distances.add_row.Given as goal

abbrev pub invariant-loop-entry : goal.invariant-loop-entry
invariant-loop-entry l =
    (counts : List ℕ) → IsSparse l.row counts → length counts ≡ length l.initial.sums
    → IsAdding (drop l.entry-index l.row) counts l.initial.sums l.sums
