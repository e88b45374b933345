-- The text so far, and the names to come.
use Rattle.std.proofs.Common.{◌≡◌, ◌++◌, drop, map}
use Rattle.std.specs.Prelude.{string_bytes}
use Rattle.std.specs.List.{flat_map}
use Rattle.tomex_html.specs.Tables.{column_head}
use Rattle.tomex_html.proofs.heads.push_column_heads.Given as goal

abbrev pub invariant-loop-name : goal.invariant-loop-name
invariant-loop-name g l =
    string_bytes l.text ++ flat_map column_head (map (λ name. name.now) (drop l.name-index l.names))
    ≡ string_bytes l.fn.text ++ flat_map column_head (map (λ name. name.now) l.names)
