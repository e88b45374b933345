-- The entries so far, and the remaining ones.
use Rattle.std.proofs.Common.{◌≡◌, ◌∷◌, ◌++◌, drop, map}
use Rattle.tomex_worth.specs.Worth.{name_under, own_under, text_under}
use Rattle.tomex_worth.proofs.table.heading_column.Given as goal

abbrev pub invariant-loop-change : goal.invariant-loop-change
invariant-loop-change g l = record {
  name : l.column.name ≡ name_under l.heading;
  entries : l.column.entries
      ++ map (text_under l.surveyed l.machine.own l.heading) (drop l.change-index l.machine.changes.now)
      ≡ own_under l.surveyed l.machine.own l.heading
      ∷ map (text_under l.surveyed l.machine.own l.heading) l.machine.changes.now;
}
