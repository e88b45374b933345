-- The text so far, and the rows to come.
use Rattle.std.proofs.Common.{◌≡◌, ◌++◌, drop, None}
use Rattle.std.specs.Prelude.{string_bytes}
use Rattle.tomex_page_tables.specs.Front.{front_rows}
use Rattle.tomex_page_tables.proofs.front.push_front_rows.Given as goal

abbrev pub invariant-loop-row : goal.invariant-loop-row
invariant-loop-row g l =
    string_bytes l.text ++ front_rows l.surveyed l.hull l.before (drop l.row-index l.shown)
    ≡ string_bytes l.fn.text ++ front_rows l.surveyed l.hull None l.shown
