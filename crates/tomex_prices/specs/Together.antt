-- Several prices of a study change at once, each by a share of the way to an end of its interval.
use Rattle.std.specs.Prelude.{◌≡◌, ◌-◌, ◌*◌, ◌<◌, ◌≤◌, ℕ, Bool, true, List, map, sum_by}
use Rattle.std.specs.List.{Contains}
use Rattle.tomex_config.specs.Configuration.{Configuration}
use Rattle.tomex_pareto.specs.Front.{front_of, is_on}
use Rattle.tomex_pareto.specs.declared.front_row.FrontRow.{FrontRow}
use Rattle.tomex_study.specs.Study.{DesignSpace, IsStudy}
use Rattle.tomex_study.specs.StudyFront.{all_rows, front_of_study}
use Rattle.tomex_prices.specs.declared.intervals.PriceRange.{PriceRange}
use Rattle.tomex_prices.specs.declared.price.Price.{Price}
use Rattle.tomex_prices.specs.Price.{payments, amount}
use Rattle.tomex_prices.specs.Prices.{prices_of}
use Rattle.tomex_prices.specs.Studies.{config_of, interval_of}

-- a value for each price
abbrev pub Values : Type 0
Values = Price → ℕ

-- the cost of a configuration at these values: each as often as it pays the price
unfoldable pub cost_at_values : Values → List Price → Configuration → ℕ
cost_at_values values all config = sum_by (λ price. values price * payments price config) all

-- a row of a study at these values
abbrev pub row_at_values : Values → DesignSpace → FrontRow → FrontRow
row_at_values values s r =
    record { row = r.row; cost = cost_at_values values (prices_of s) (config_of s r); cycles = r.cycles }

-- the row is on the front of all rows at these values
abbrev pub is_on_with : Values → DesignSpace → FrontRow → Bool
is_on_with values s r = is_on (front_of (map (row_at_values values s) (all_rows s))) r.row

-- a price moves from now by at most `share` parts of the `whole` of the way to the end of a range on its side
pub record IsShareOfWay (range : PriceRange) (now value share whole : ℕ) : Type 0 where
  pub up : (value - now) * whole ≤ share * (range.most - now)
  pub down : (now - value) * whole ≤ share * (now - range.least)

-- a row of the front stays on it if each price moves by a share of the way to the end of its interval, and the shares
-- add up to no more than the whole
abbrev pub StaysByShares : Type 0
StaysByShares = (s : DesignSpace) (values : Values) (shares : Price → ℕ) (whole : ℕ) (r : FrontRow) → IsStudy s
    → Contains (front_of_study s) r → 0 < whole → sum_by shares (prices_of s) ≤ whole
    → ((price : Price)
    → IsShareOfWay (interval_of s price r) (amount price s.prices) (values price) (shares price) whole)
    → is_on_with values s r ≡ true

-- at the stated prices a row has its stated cost
abbrev pub IsStatedAtStated : Type 0
IsStatedAtStated = (s : DesignSpace) (r : FrontRow) → IsStudy s → Contains (all_rows s) r
    → (row_at_values (λ price. amount price s.prices) s r).cost ≡ r.cost
