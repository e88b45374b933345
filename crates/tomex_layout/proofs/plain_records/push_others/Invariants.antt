-- The numbers so far, and the remaining ones.
use Rattle.std.proofs.Common.{◌≡◌, ◌++◌, drop}
use Rattle.std.specs.List.{flat_map}
use Rattle.tomex_layout.specs.PlainRecords.{after_comma}
use Rattle.tomex_layout.proofs.plain_records.push_others.Given as goal

abbrev pub invariant-loop-number : goal.invariant-loop-number
invariant-loop-number g l =
    l.text.items ++ flat_map after_comma (drop l.number-index l.numbers)
    ≡ l.fn.text.items ++ flat_map after_comma l.numbers
