-- The text so far, and the links to come.
use Rattle.std.proofs.Common.{◌≡◌, ◌+◌, ◌-◌, ◌++◌}
use Rattle.std.specs.Prelude.{string_bytes}
use Rattle.std.specs.List.{flat_map, range_with_len}
use Rattle.tomex_animate.specs.Machine.{index_link}
use Rattle.tomex_animate.proofs.machine.push_index_links.Given as goal

abbrev pub invariant-loop-cycle : goal.invariant-loop-cycle
invariant-loop-cycle g l =
    string_bytes l.text ++ flat_map index_link (range_with_len l.cycle (l.to + 1 - l.cycle))
    ≡ string_bytes l.fn.text ++ flat_map index_link (range_with_len l.from (l.to + 1 - l.from))
