-- The text so far, and the remaining lines.
use Rattle.std.proofs.Common.{◌≡◌, ◌++◌, drop}
use Rattle.std.specs.Prelude.{string_bytes}
use Rattle.std.specs.List.{flat_map}
use Rattle.tomex_front_views.specs.LinkedPlot.{linked_line}
use Rattle.tomex_front_views.proofs.plot.linked.push_linked_lines.Given as goal

abbrev pub invariant-loop-row : goal.invariant-loop-row
invariant-loop-row g l =
    string_bytes l.text ++ flat_map (linked_line l.axes l.radius l.hull l.shown) (drop l.row-index l.front)
    ≡ string_bytes l.fn.text ++ flat_map (linked_line l.axes l.radius l.hull l.shown) l.front
