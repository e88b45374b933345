-- The row is among the remaining ones, if it is one of these.
use Rattle.std.proofs.Common.{◌≡◌, drop, None}
use Rattle.tomex_page_tables.specs.Front.{rate_in}
use Rattle.tomex_page_tables.proofs.front.rate_in.Given as goal

abbrev pub invariant-loop-row : goal.invariant-loop-row
invariant-loop-row l = rate_in l.before (drop l.row-index l.rows) l.number ≡ rate_in None l.rows l.number
