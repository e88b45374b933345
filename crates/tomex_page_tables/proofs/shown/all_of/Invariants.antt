-- The rows so far, and those to come.
use Rattle.std.proofs.Common.{◌≡◌, ◌++◌, drop}
use Rattle.tomex_page_tables.proofs.shown.all_of.Given as goal

abbrev pub invariant-loop-row : goal.invariant-loop-row
invariant-loop-row l =
    l.rows.items ++ drop l.row-index l.front ≡ l.front
