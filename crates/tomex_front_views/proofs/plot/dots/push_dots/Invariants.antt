-- The text so far, and the remaining columns.
use Rattle.std.proofs.Common.{◌≡◌, ◌++◌}
use Rattle.std.specs.Prelude.{string_bytes}
use Rattle.std.specs.List.{flat_map}
use Rattle.tomex_front_views.specs.Dots.{column_text, dots, has_dot}
use Rattle.tomex_front_views.proofs.Strokes.{x_from}
use Rattle.tomex_front_views.proofs.plot.dots.push_dots.Given as goal

abbrev pub invariant-loop-column : goal.invariant-loop-column
invariant-loop-column g l =
    string_bytes l.text ++ flat_map (λ x. column_text (has_dot l.axes l.rows x) x) (x_from l.column)
    ≡ string_bytes l.fn.text ++ dots l.axes l.rows
