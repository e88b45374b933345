-- The text so far, and the rows of the pools to come.
use Rattle.std.proofs.Common.{◌≡◌, ◌++◌, drop}
use Rattle.std.specs.Prelude.{string_bytes}
use Rattle.std.specs.List.{flat_map}
use Rattle.tomex_snapshots.specs.Entries.{history_of}
use Rattle.tomex_frames.specs.Stations.{pool_rows}
use Rattle.tomex_frames.proofs.stations.push_pools.Given as goal

abbrev pub invariant-loop-pool : goal.invariant-loop-pool
invariant-loop-pool g l =
    let rows = pool_rows l.config l.view.cycle (history_of l.view.entries.now) in
    string_bytes l.text ++ flat_map rows (drop l.pool-index l.pools)
    ≡ string_bytes l.fn.text ++ flat_map rows l.pools
