-- The text so far, and the registers to come.
use Rattle.std.proofs.Common.{◌≡◌, ◌-◌, ◌++◌}
use Rattle.std.specs.Prelude.{string_bytes}
use Rattle.std.specs.List.{flat_map, range_with_len}
use Rattle.tomex_frames.specs.Blank.{blank_register}
use Rattle.tomex_frames.proofs.blank.push_some_registers.Given as goal

abbrev pub invariant-loop-register : goal.invariant-loop-register
invariant-loop-register g l =
    string_bytes l.text ++ flat_map blank_register (range_with_len l.register (l.to - l.register))
    ≡ string_bytes l.fn.text ++ flat_map blank_register (range_with_len l.from (l.to - l.from))
