-- The text so far, and the registers to come.
use Rattle.std.proofs.Common.{◌≡◌, ◌-◌, ◌++◌}
use Rattle.std.specs.Prelude.{string_bytes}
use Rattle.std.specs.List.{flat_map, range_with_len}
use Rattle.tomex_snapshots.specs.Entries.{history_of}
use Rattle.tomex_frames.specs.Stations.{register_at}
use Rattle.tomex_frames.proofs.registers.push_some.Given as goal

abbrev pub invariant-loop-register : goal.invariant-loop-register
invariant-loop-register g l =
    let cell = register_at l.view.cycle (history_of l.view.entries.now) in
    string_bytes l.text ++ flat_map cell (range_with_len l.register (l.to - l.register))
    ≡ string_bytes l.fn.text ++ flat_map cell (range_with_len l.from (l.to - l.from))
