-- The fields so far.
use Rattle.std.proofs.Common.{◌≡◌, map, take}
use Rattle.tomex_compare.specs.GroupCsv.{field_under}
use Rattle.tomex_compare.specs.GroupTable.{all_headings}
use Rattle.tomex_compare.proofs.group_records.fields_of.Given as goal

abbrev pub invariant-loop-heading : goal.invariant-loop-heading
invariant-loop-heading l = l.fields ≡ map (field_under l.group) (take l.heading-index all_headings)
