-- The rows so far, and those to come.
use Rattle.std.proofs.Common.{◌≡◌, ◌-◌, ◌++◌, map}
use Rattle.std.specs.List.{range_with_len}
use Rattle.tomex_page_tables.specs.Shown.{chosen_row}
use Rattle.tomex_page_tables.proofs.shown.spread.Given as goal

abbrev pub invariant-loop-k : goal.invariant-loop-k
invariant-loop-k l =
    l.rows.items ++ map (chosen_row l.front) (range_with_len l.k (64 - l.k))
    ≡ map (chosen_row l.front) (range_with_len 0 64)
