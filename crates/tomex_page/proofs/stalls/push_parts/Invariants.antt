-- The text so far, and the lines to come.
use Rattle.std.proofs.Common.{◌≡◌, ◌++◌, drop}
use Rattle.std.specs.Prelude.{string_bytes}
use Rattle.std.specs.List.{flat_map}
use Rattle.tomex_page.specs.Stalls.{stall_row}
use Rattle.tomex_page.proofs.stalls.push_parts.Given as goal

abbrev pub invariant-loop-part : goal.invariant-loop-part
invariant-loop-part g l =
    string_bytes l.text ++ flat_map (stall_row l.config l.needs l.path) (drop l.part-index l.parts)
    ≡ string_bytes l.fn.text ++ flat_map (stall_row l.config l.needs l.path) l.parts
