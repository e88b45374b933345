-- The text so far, and the lines of the remaining places.
use Rattle.std.proofs.Common.{◌≡◌, ◌++◌, drop}
use Rattle.std.specs.Prelude.{string_bytes}
use Rattle.std.specs.List.{filter_map, flat_map}
use Rattle.tomex_texts.specs.TablesText.{station_line}
use Rattle.tomex_texts.proofs.tables.push_stations.Given as goal

abbrev pub invariant-loop-place : goal.invariant-loop-place
invariant-loop-place g l =
    string_bytes l.text ++ flat_map station_line (filter_map (λ b. b) (drop l.place-index l.places))
    ≡ string_bytes l.fn.text ++ flat_map station_line (filter_map (λ b. b) l.places)
