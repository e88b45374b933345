-- The records of the lists so far, and of the remaining ones.
use Rattle.std.proofs.Common.{◌≡◌, ◌++◌, drop}
use Rattle.std.specs.List.{flat_map}
use Rattle.tomex_choices_table.specs.ChoicesCsv.{choices_csv_of, list_record}
use Rattle.tomex_choices_table.proofs.records.choices_csv.Given as goal

abbrev pub invariant-loop-list : goal.invariant-loop-list
invariant-loop-list g l = l.text ++ flat_map list_record (drop l.list-index l.lists) ≡ choices_csv_of l.lists
