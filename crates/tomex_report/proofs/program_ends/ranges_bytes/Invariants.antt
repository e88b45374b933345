-- The bytes of the ranges so far.
use Rattle.std.proofs.Common.{◌≡◌, take}
use Rattle.std.specs.List.{flat_map}
use Rattle.tomex_texts.specs.Ends.{bytes_at}
use Rattle.tomex_report.proofs.program_ends.ranges_bytes.Given as goal

abbrev pub invariant-loop-range : goal.invariant-loop-range
invariant-loop-range g l = l.bytes.items ≡ flat_map (bytes_at l.window.base l.memory) (take l.range-index l.ranges)
