-- The texts of the lists so far, and of the remaining ones.
use Rattle.std.proofs.Common.{◌≡◌, ◌++◌, drop, map}
use Rattle.tomex_choices_table.specs.ChoicesTable.{name_under, text_under}
use Rattle.tomex_choices_table.proofs.table.heading_column.Given as goal

abbrev pub invariant-loop-list : goal.invariant-loop-list
invariant-loop-list l = record {
  name : l.column.name ≡ name_under l.heading;
  entries : l.column.entries ++ map (text_under l.heading) (drop l.list-index l.lists)
      ≡ map (text_under l.heading) l.lists;
}
