-- The records so far, and the remaining ones.
use Rattle.std.proofs.Common.{◌≡◌, ◌++◌, drop}
use Rattle.std.specs.List.{flat_map}
use Rattle.tomex_compare.specs.GroupCsv.{group_csv_of, group_record}
use Rattle.tomex_compare.proofs.group_records.group_csv.Given as goal

abbrev pub invariant-loop-group : goal.invariant-loop-group
invariant-loop-group g l =
    l.text ++ flat_map group_record (drop l.group-index l.groups) ≡ group_csv_of l.groups
