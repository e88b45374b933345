-- Laws of the prices at which a row stays.
use Rattle.std.specs.Prelude.{◌≡◌, ℕ, ◌≤◌, true, List, map}
use Rattle.std.specs.List.{Contains}
use Rattle.tomex_pareto.specs.Pareto.{AreNumbered}
use Rattle.tomex_pareto.specs.declared.line_row.LineRow.{LineRow}
use Rattle.tomex_pareto.specs.Spans.{as_cost, on_front, stays}
use Rattle.tomex_prices.specs.declared.price.TheConstants.{GREATEST_PRICE}
use Rattle.tomex_prices.specs.Interval.{interval, is_within}

-- a row that stays at the stated price stays at exactly the prices of its interval
abbrev pub StaysExactlyWithin : Type 0
StaysExactlyWithin = (now q : ℕ) (rows : List LineRow) (r : LineRow) → q ≤ GREATEST_PRICE
    → stays now rows r ≡ true → stays q rows r ≡ is_within (interval r rows) q

-- and a row of the front is on the front at exactly those
abbrev pub IsOnFrontExactlyWithin : Type 0
IsOnFrontExactlyWithin = (now q : ℕ) (rows : List LineRow) (r : LineRow) → q ≤ GREATEST_PRICE
    → AreNumbered (map (as_cost now) rows) → Contains rows r → on_front now rows r.row ≡ true
    → on_front q rows r.row ≡ is_within (interval r rows) q
