-- The names so far.
use Rattle.std.proofs.Common.{◌≡◌, map, take}
use Rattle.tomex_compare.specs.GroupTable.{all_headings, name_under}
use Rattle.tomex_compare.proofs.group_records.names.Given as goal

abbrev pub invariant-loop-heading : goal.invariant-loop-heading
invariant-loop-heading l = l.fields ≡ map name_under (take l.heading-index all_headings)
