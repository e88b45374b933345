-- The text so far, and the rows to come.
use Rattle.std.proofs.Common.{◌≡◌, ◌++◌, drop}
use Rattle.std.specs.Prelude.{string_bytes}
use Rattle.std.specs.List.{flat_map}
use Rattle.tomex_page_rows.specs.Lists.{list_row}
use Rattle.tomex_page_rows.proofs.lists.push_list_rows.Given as goal

abbrev pub invariant-loop-part : goal.invariant-loop-part
invariant-loop-part g l =
    string_bytes l.text ++ flat_map (list_row l.surveyed) (drop l.part-index l.parts)
    ≡ string_bytes l.fn.text ++ flat_map (list_row l.surveyed) l.parts
