-- The text so far, and the signs of the cycles to come.
use Rattle.std.proofs.Common.{◌≡◌, ◌++◌, ◌+◌, ◌-◌}
use Rattle.std.specs.List.{flat_map, range_with_len}
use Rattle.std.specs.Prelude.{string_bytes}
use Rattle.tomex_run_views.specs.Chart.{sign_in}
use Rattle.tomex_path_views.specs.ByLink.{signs}
use Rattle.tomex_path_views.proofs.by_link.push_signs.Given as goal

abbrev pub invariant-loop-cycle : goal.invariant-loop-cycle
invariant-loop-cycle l =
    string_bytes l.text ++ flat_map (sign_in l.at) (range_with_len l.cycle (l.link.to + 1 - l.cycle))
    ≡ string_bytes l.fn.text ++ signs l.at l.link
