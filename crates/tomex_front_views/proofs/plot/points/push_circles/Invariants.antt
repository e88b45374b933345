-- The text so far, and the remaining circles.
use Rattle.std.proofs.Common.{◌≡◌, ◌++◌, drop}
use Rattle.std.specs.Prelude.{string_bytes}
use Rattle.std.specs.List.{flat_map}
use Rattle.tomex_front_views.specs.Plot.{circle_line}
use Rattle.tomex_front_views.proofs.plot.points.push_circles.Given as goal

abbrev pub invariant-loop-row : goal.invariant-loop-row
invariant-loop-row g l =
    string_bytes l.text ++ flat_map (circle_line l.axes l.radius l.hull) (drop l.row-index l.rows)
    ≡ string_bytes l.fn.text ++ flat_map (circle_line l.axes l.radius l.hull) l.rows
