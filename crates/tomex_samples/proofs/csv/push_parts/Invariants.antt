use Rattle.std.proofs.Common.{◌≡◌, ◌++◌, take}
use Rattle.std.specs.List.{flat_map}
use Rattle.std.specs.Prelude.{string_bytes}
use Rattle.tomex_samples.specs.PartsCsv.{part_line}
use Rattle.tomex_samples.proofs.csv.push_parts.Given as goal

abbrev pub invariant-loop-part : goal.invariant-loop-part
invariant-loop-part g l =
    string_bytes l.text ≡ string_bytes l.fn.text ++ flat_map part_line (take l.part-index l.parts)
