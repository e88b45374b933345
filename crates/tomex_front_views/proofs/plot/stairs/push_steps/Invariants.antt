-- The text so far, and the remaining moves.
use Rattle.std.proofs.Common.{◌≡◌, ◌++◌, drop}
use Rattle.std.specs.Prelude.{string_bytes}
use Rattle.tomex_front_views.specs.Plot.{steps_down}
use Rattle.tomex_front_views.proofs.plot.stairs.push_steps.Given as goal

abbrev pub invariant-loop-row : goal.invariant-loop-row
invariant-loop-row g l =
    string_bytes l.text ++ steps_down l.axes l.at (drop l.row-index l.rows)
    ≡ string_bytes l.fn.text ++ steps_down l.axes l.fn.from l.rows
