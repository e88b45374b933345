-- Laws of the interval of a price in a study.
use Rattle.std.specs.Prelude.{◌≡◌, ◌<◌, ◌≤◌, true, false, length}
use Rattle.std.specs.List.{Contains}
use Rattle.tomex_pareto.specs.declared.front_row.FrontRow.{FrontRow}
use Rattle.tomex_study.specs.Study.{DesignSpace, IsStudy}
use Rattle.tomex_study.specs.StudyFront.{front_of_study}
use Rattle.tomex_prices.specs.declared.price.Price.{Price}
use Rattle.tomex_prices.specs.declared.price.TheConstants.{GREATEST_PRICE}
use Rattle.tomex_prices.specs.Interval.{is_within}
use Rattle.tomex_prices.specs.Price.{amount}
use Rattle.tomex_prices.specs.Prices.{is_relevant}
use Rattle.tomex_prices.specs.Studies.{interval_of}

-- it holds the stated price
abbrev pub HoldsStated : Type 0
HoldsStated = (s : DesignSpace) (price : Price) (r : FrontRow) → IsStudy s → amount price s.prices ≤ GREATEST_PRICE
    → Contains (front_of_study s) r → is_within (interval_of s price r) (amount price s.prices) ≡ true

-- and all prices, if rows pay this one equally often
abbrev pub HoldsAllIfIrrelevant : Type 0
HoldsAllIfIrrelevant = (s : DesignSpace) (price : Price) (r : FrontRow) → r.row < length s.rows
    → is_relevant s.rows price ≡ false → interval_of s price r ≡ record { least = 0; most = GREATEST_PRICE }
