-- The text so far, and the rows of the steps to come.
use Rattle.std.proofs.Common.{◌≡◌, ◌++◌, drop}
use Rattle.std.specs.Prelude.{string_bytes}
use Rattle.std.specs.List.{flat_map}
use Rattle.tomex_frames.specs.Status.{row_if}
use Rattle.tomex_frames.proofs.status.push_rows.Given as goal

abbrev pub invariant-loop-entry : goal.invariant-loop-entry
invariant-loop-entry g l =
    string_bytes l.text ++ flat_map (row_if l.framed l.span l.cycle) (drop l.entry-index l.entries)
    ≡ string_bytes l.fn.text ++ flat_map (row_if l.framed l.span l.cycle) l.entries
