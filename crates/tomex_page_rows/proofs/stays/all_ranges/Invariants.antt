-- The prices so far, and those to come.
use Rattle.std.proofs.Common.{◌≡◌, ◌++◌, drop, map}
use Rattle.tomex_page_rows.specs.Stays.{ranges_of}
use Rattle.tomex_page_rows.proofs.stays.all_ranges.Given as goal

abbrev pub invariant-loop-price : goal.invariant-loop-price
invariant-loop-price g l =
    l.all.items ++ map (ranges_of l.surveyed l.shown) (drop l.price-index l.prices)
    ≡ map (ranges_of l.surveyed l.shown) l.prices
