-- The text so far, and the rows to come.
use Rattle.std.proofs.Common.{◌≡◌, ◌-◌, ◌++◌}
use Rattle.std.specs.Prelude.{string_bytes}
use Rattle.std.specs.List.{flat_map, range_with_len}
use Rattle.tomex_config.specs.Configuration.{stations_of}
use Rattle.tomex_snapshots.specs.Entries.{history_of}
use Rattle.tomex_frames.specs.Stations.{row_in}
use Rattle.tomex_frames.proofs.stations.push_pool.Given as goal

abbrev pub invariant-loop-number : goal.invariant-loop-number
invariant-loop-number g l =
    string_bytes l.text ++ flat_map (row_in l.view.cycle (history_of l.view.entries.now) l.pool) (range_with_len
    l.number (stations_of l.config l.pool - l.number))
    ≡ string_bytes l.fn.text ++ flat_map (row_in l.view.cycle (history_of l.view.entries.now) l.pool) (range_with_len
    0 (stations_of l.config l.pool - 0))
