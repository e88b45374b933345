-- No earlier floors are of these latencies.
use Rattle.std.proofs.Common.{◌≡◌, ℕ, ◌<◌}
use Rattle.std.specs.Prelude.{slice_index_or}
use Rattle.tomex_floor.specs.declared.floored.KnownFloors.{KnownFloors}
use Rattle.tomex_floor.proofs.floored.known_for.Given as goal

abbrev pub invariant-loop-one : goal.invariant-loop-one
invariant-loop-one l =
    (k : ℕ) (d : KnownFloors) → k < l.one-index → (slice_index_or l.known k d).latencies ≡ l.latencies → ⊥
