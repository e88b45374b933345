-- The text so far, and the lines to come.
use Rattle.std.proofs.Common.{◌≡◌, ◌++◌, drop}
use Rattle.std.specs.Prelude.{string_bytes}
use Rattle.std.specs.List.{flat_map}
use Rattle.tomex_page_rows.specs.Changed.{change_row}
use Rattle.tomex_page_rows.proofs.changed.push_change_rows.Given as goal

abbrev pub invariant-loop-change : goal.invariant-loop-change
invariant-loop-change g l =
    string_bytes l.text ++ flat_map (change_row l.surveyed l.shown l.own) (drop l.change-index l.changes)
    ≡ string_bytes l.fn.text ++ flat_map (change_row l.surveyed l.shown l.own) l.changes
