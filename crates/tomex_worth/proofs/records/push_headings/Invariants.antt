-- The fields so far.
use Rattle.std.proofs.Common.{◌≡◌, ◌++◌, take}
use Rattle.std.specs.List.{flat_map}
use Rattle.tomex_worth.specs.Worth.{all_headings}
use Rattle.tomex_worth.specs.WorthCsv.{fields_under}
use Rattle.tomex_worth.proofs.records.push_headings.Given as goal

abbrev pub invariant-loop-heading : goal.invariant-loop-heading
invariant-loop-heading g l =
    l.fields ≡ l.fn.fields ++ flat_map (fields_under l.surveyed l.own l.change) (take l.heading-index all_headings)
