-- The entries so far, and the remaining ones.
use Rattle.std.proofs.Common.{◌≡◌, ◌++◌, drop, map}
use Rattle.std.specs.Fmt.{decimal}
use Rattle.tomex_find.specs.Find.{name_of, value_of}
use Rattle.tomex_find.proofs.found_table.column_of.Given as goal

abbrev pub invariant-loop-row : goal.invariant-loop-row
invariant-loop-row g l = record {
  name : l.column.name ≡ name_of l.property;
  entries : l.column.entries ++ map (λ k. decimal (value_of l.study k l.property)) (drop l.row-index l.rows)
      ≡ map (λ k. decimal (value_of l.study k l.property)) l.rows;
}
