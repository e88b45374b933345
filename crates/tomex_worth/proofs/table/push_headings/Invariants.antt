-- The columns so far.
use Rattle.std.proofs.Common.{◌≡◌, ◌++◌, map, take}
use Rattle.tomex_worth.specs.Worth.{all_headings, heading_column}
use Rattle.tomex_worth.proofs.table.push_headings.Given as goal

abbrev pub invariant-loop-heading : goal.invariant-loop-heading
invariant-loop-heading g l =
    l.columns.items ≡ l.fn.columns.items
    ++ map (heading_column l.surveyed l.machine.own) (take l.heading-index all_headings)
