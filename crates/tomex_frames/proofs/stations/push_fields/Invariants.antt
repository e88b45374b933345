-- The text so far, and the fields to come.
use Rattle.std.proofs.Common.{◌≡◌, ◌++◌, drop}
use Rattle.std.specs.Prelude.{string_bytes}
use Rattle.std.specs.List.{flat_map}
use Rattle.tomex_frames.specs.Stations.{field_cell}
use Rattle.tomex_frames.proofs.stations.push_fields.Given as goal

abbrev pub invariant-loop-column : goal.invariant-loop-column
invariant-loop-column g l =
    string_bytes l.text ++ flat_map (field_cell l.was l.now) (drop l.column-index l.columns)
    ≡ string_bytes l.fn.text ++ flat_map (field_cell l.was l.now) l.columns
