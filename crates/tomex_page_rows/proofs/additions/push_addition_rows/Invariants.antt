-- The text so far, and the rows to come.
use Rattle.std.proofs.Common.{◌≡◌, ◌++◌, drop}
use Rattle.std.specs.Prelude.{string_bytes}
use Rattle.std.specs.List.{flat_map}
use Rattle.tomex_page_rows.specs.Additions.{addition_row}
use Rattle.tomex_page_rows.proofs.additions.push_addition_rows.Given as goal

abbrev pub invariant-loop-list : goal.invariant-loop-list
invariant-loop-list g l =
    string_bytes l.text ++ flat_map (addition_row l.prices) (drop l.list-index l.lists)
    ≡ string_bytes l.fn.text ++ flat_map (addition_row l.prices) l.lists
