-- The text so far, and the remaining numbers.
use Rattle.std.proofs.Common.{◌≡◌, ◌++◌, drop, None}
use Rattle.std.specs.Prelude.{string_bytes}
use Rattle.tomex_front_views.specs.Plot.{numbers_of}
use Rattle.tomex_front_views.proofs.plot.points.push_numbers.Given as goal

abbrev pub invariant-loop-row : goal.invariant-loop-row
invariant-loop-row g l =
    string_bytes l.text ++ numbers_of l.axes l.last (drop l.row-index l.rows)
    ≡ string_bytes l.fn.text ++ numbers_of l.axes None l.rows
