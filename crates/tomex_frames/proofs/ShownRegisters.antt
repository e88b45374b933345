-- What a view shows of a register.
use Rattle.std.proofs.Common.{◌≡◌, ◌<◌, ℕ, List, Option, ap₂}
use Rattle.std.specs.Prelude.{slice_index_or}
use Rattle.tomex_timing.specs.declared.tables.Tag.{Tag}
use Rattle.tomex_timing.specs.declared.times.Done.{Done}
use Rattle.tomex_snapshots.specs.Kept.{AreSnapshots}
use Rattle.tomex_snapshots.specs.declared.snapshot.Snapshots.{Snapshots}
use Rattle.tomex_snapshots.proofs.Shown.{register_is}
use Rattle.tomex_frames.specs.Stations.{register_at, register_cell}

-- a register's cell, by what the snapshots have of it
pub cell_is : (t : ℕ) (h : List Done) (snapshots : Snapshots) (r : ℕ) (d e : Option Tag) → AreSnapshots t h snapshots
    → r < 32
    → register_cell r (slice_index_or snapshots.before.registers r d) (slice_index_or snapshots.now.registers r e)
    ≡ register_at t h r
unfolding register_at
cell_is t h snapshots r d e are low =
    ap₂ (λ (was now : Option Tag). register_cell r was now)
    (register_is _ _ h snapshots.before r d are.before low) (register_is _ _ h snapshots.now r e are.now low)
