-- The text so far, and the remaining lines.
use Rattle.std.proofs.Common.{◌≡◌, ◌-◌, ◌++◌}
use Rattle.std.specs.Prelude.{string_bytes}
use Rattle.std.specs.List.{flat_map, range_with_len}
use Rattle.tomex_layout.specs.Table.{entries_line}
use Rattle.tomex_layout.proofs.table.table_of.Given as goal

abbrev pub invariant-loop-place : goal.invariant-loop-place
invariant-loop-place g l =
    string_bytes l.text ++ flat_map (entries_line l.columns) (range_with_len l.place (l.count - l.place))
    ≡ string_bytes l.initial.text ++ flat_map (entries_line l.columns) (range_with_len 0 l.count)
