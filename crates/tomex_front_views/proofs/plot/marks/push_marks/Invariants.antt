-- The text so far, and that of the remaining ticks.
use Rattle.std.proofs.Common.{◌≡◌, ◌+◌, ◌-◌, ◌*◌, ◌++◌, map}
use Rattle.std.specs.Prelude.{string_bytes}
use Rattle.std.specs.List.{flat_map, range_with_len}
use Rattle.tomex_front_views.specs.Plot.{mark_at, marks_of}
use Rattle.tomex_front_views.proofs.plot.marks.push_marks.Given as goal

abbrev pub invariant-loop-k : goal.invariant-loop-k
invariant-loop-k g l =
    string_bytes l.text
    ++ flat_map (mark_at l.axes l.mark) (map (λ k. k * l.step) (range_with_len l.k (l.k-end + 1 - l.k)))
    ≡ string_bytes l.fn.text ++ marks_of l.axes l.mark
