-- The text so far, and the remaining entries.
use Rattle.std.proofs.Common.{◌≡◌, ◌++◌, drop}
use Rattle.std.specs.Prelude.{string_bytes}
use Rattle.std.specs.List.{flat_map}
use Rattle.tomex_layout.specs.Table.{spaced_in}
use Rattle.tomex_layout.proofs.table.push_spaced.Given as goal

abbrev pub invariant-loop-column : goal.invariant-loop-column
invariant-loop-column g l =
    string_bytes l.text ++ flat_map (spaced_in l.line) (drop l.column-index l.columns)
    ≡ string_bytes l.fn.text ++ flat_map (spaced_in l.line) l.columns
