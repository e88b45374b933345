-- The entries so far, and the remaining ones.
use Rattle.std.proofs.Common.{◌≡◌, ◌++◌, drop, map}
use Rattle.tomex_compare.specs.GroupTable.{name_under, text_under}
use Rattle.tomex_compare.proofs.group_table.heading_column.Given as goal

abbrev pub invariant-loop-group : goal.invariant-loop-group
invariant-loop-group l = record {
  name : l.column.name ≡ name_under l.heading;
  entries : l.column.entries ++ map (text_under l.heading) (drop l.group-index l.groups)
      ≡ map (text_under l.heading) l.groups;
}
