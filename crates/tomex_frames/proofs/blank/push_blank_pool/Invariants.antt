-- The text so far, and the rows to come.
use Rattle.std.proofs.Common.{◌≡◌, ◌-◌, ◌++◌}
use Rattle.std.specs.Prelude.{string_bytes}
use Rattle.std.specs.List.{flat_map, range_with_len}
use Rattle.tomex_config.specs.Configuration.{stations_of}
use Rattle.tomex_frames.specs.Blank.{blank_station}
use Rattle.tomex_frames.proofs.blank.push_blank_pool.Given as goal

abbrev pub invariant-loop-number : goal.invariant-loop-number
invariant-loop-number g l =
    let count = stations_of l.config l.pool in
    string_bytes l.text ++ flat_map (blank_station l.pool) (range_with_len l.number (count - l.number))
    ≡ string_bytes l.fn.text ++ flat_map (blank_station l.pool) (range_with_len 0 (count - 0))
