-- The columns so far.
use Rattle.std.proofs.Common.{◌≡◌, map, take}
use Rattle.tomex_choices_table.specs.ChoicesTable.{all_headings, heading_column}
use Rattle.tomex_choices_table.proofs.table.all_columns.Given as goal

abbrev pub invariant-loop-heading : goal.invariant-loop-heading
invariant-loop-heading l =
    l.columns.items ≡ map (heading_column l.lists) (take l.heading-index all_headings)
