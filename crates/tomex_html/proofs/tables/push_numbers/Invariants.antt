-- The text so far, and the cells to come.
use Rattle.std.proofs.Common.{◌≡◌, ◌++◌, drop}
use Rattle.std.specs.Prelude.{string_bytes}
use Rattle.std.specs.List.{flat_map}
use Rattle.tomex_html.specs.Tables.{number_cell}
use Rattle.tomex_html.proofs.tables.push_numbers.Given as goal

abbrev pub invariant-loop-number : goal.invariant-loop-number
invariant-loop-number g l =
    string_bytes l.text ++ flat_map number_cell (drop l.number-index l.numbers)
    ≡ string_bytes l.fn.text ++ flat_map number_cell l.numbers
