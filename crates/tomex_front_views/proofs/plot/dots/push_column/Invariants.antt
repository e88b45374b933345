-- The text so far, and the strokes of the remaining lines.
use Rattle.std.proofs.Common.{◌≡◌, ◌++◌, ℕ, Bool, false, map}
use Rattle.std.specs.Prelude.{string_bytes}
use Rattle.std.specs.List.{flat_map}
use Rattle.tomex_front_views.specs.Dots.{all_y, column_text, stroke_at}
use Rattle.tomex_front_views.proofs.Strokes.{y_from}
use Rattle.tomex_front_views.proofs.plot.dots.push_column.Given as goal

abbrev pub invariant-loop-line : goal.invariant-loop-line
invariant-loop-line g l = (dot : ℕ → Bool) → dot 79 ≡ false → l.column ≡ map dot all_y
    → string_bytes l.text ++ flat_map (stroke_at dot l.x) (y_from l.line)
    ≡ string_bytes l.fn.text ++ column_text dot l.x
