-- The text so far, and the lines to come.
use Rattle.std.proofs.Common.{◌≡◌, ◌++◌, drop}
use Rattle.std.specs.Prelude.{string_bytes}
use Rattle.std.specs.List.{flat_map}
use Rattle.tomex_page_rows.specs.Stays.{range_row_at}
use Rattle.tomex_page_rows.proofs.stays.push_range_rows.Given as goal

abbrev pub invariant-loop-ranges : goal.invariant-loop-ranges
invariant-loop-ranges g l =
    string_bytes l.text ++ flat_map (range_row_at l.place) (drop l.ranges-index l.all)
    ≡ string_bytes l.fn.text ++ flat_map (range_row_at l.place) l.all
