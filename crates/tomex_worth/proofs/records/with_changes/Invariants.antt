-- The records so far, and the remaining ones.
use Rattle.std.proofs.Common.{◌≡◌, ◌++◌, drop}
use Rattle.std.specs.List.{flat_map}
use Rattle.tomex_worth.specs.WorthCsv.{change_record}
use Rattle.tomex_worth.proofs.records.with_changes.Given as goal

abbrev pub invariant-loop-change : goal.invariant-loop-change
invariant-loop-change g l =
    l.made ++ flat_map (change_record l.surveyed l.machine.own) (drop l.change-index l.machine.changes.now)
    ≡ l.fn.text ++ flat_map (change_record l.surveyed l.machine.own) l.machine.changes.now
