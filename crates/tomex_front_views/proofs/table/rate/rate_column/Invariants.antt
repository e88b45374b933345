-- The rates so far, and the remaining ones.
use Rattle.std.proofs.Common.{◌≡◌, ◌++◌, drop, None}
use Rattle.std.specs.Prelude.{codes}
use Rattle.tomex_front_views.specs.FrontTable.{rates_after}
use Rattle.tomex_front_views.proofs.table.rate.rate_column.Given as goal

abbrev pub invariant-loop-row : goal.invariant-loop-row
invariant-loop-row l = record {
  name : l.column.name ≡ codes "rate";
  rates : l.column.entries ++ rates_after l.before (drop l.row-index l.front) ≡ rates_after None l.front;
}
