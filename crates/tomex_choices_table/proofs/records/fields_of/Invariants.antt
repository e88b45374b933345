-- The fields so far.
use Rattle.std.proofs.Common.{◌≡◌, map, take}
use Rattle.tomex_choices_table.specs.ChoicesCsv.{field_under}
use Rattle.tomex_choices_table.specs.ChoicesTable.{all_headings}
use Rattle.tomex_choices_table.proofs.records.fields_of.Given as goal

abbrev pub invariant-loop-heading : goal.invariant-loop-heading
invariant-loop-heading l = l.fields ≡ map (field_under l.list) (take l.heading-index all_headings)
