-- The ranges so far, and those to come.
use Rattle.std.proofs.Common.{◌≡◌, ◌++◌, drop, map}
use Rattle.tomex_prices.specs.Studies.{interval_of}
use Rattle.tomex_page_rows.proofs.stays.ranges_of.Given as goal

abbrev pub invariant-loop-row : goal.invariant-loop-row
invariant-loop-row g l =
    l.ranges.items ++ map (interval_of l.surveyed l.price) (drop l.row-index l.shown)
    ≡ map (interval_of l.surveyed l.price) l.shown
