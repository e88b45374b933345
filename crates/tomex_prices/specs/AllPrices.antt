-- All prices of a study are wrong at once, each by a factor of its own, in hundredths: the costs of rows then, and
-- which rows of the front stay on it.
use Rattle.std.specs.Prelude.{◌≡◌, ◌+◌, ◌*◌, ◌<◌, ℕ, Bool, true, false, List, map, sum_by}
use Rattle.std.specs.List.{Contains}
use Rattle.tomex_config.specs.Configuration.{Configuration}
use Rattle.tomex_config.specs.Cost.{PriceList}
use Rattle.tomex_pareto.specs.Front.{front_of, is_on}
use Rattle.tomex_pareto.specs.declared.front_row.FrontRow.{FrontRow}
use Rattle.tomex_pareto.specs.Percent.{AreWithin}
use Rattle.tomex_study.specs.Study.{DesignSpace, IsStudy}
use Rattle.tomex_study.specs.StudyFront.{all_rows, front_of_study}
use Rattle.tomex_prices.specs.declared.price.Price.{Price}
use Rattle.tomex_prices.specs.Percent.{percent_of}
use Rattle.tomex_prices.specs.Price.{payments, amount}
use Rattle.tomex_prices.specs.Prices.{prices_of}
use Rattle.tomex_prices.specs.Studies.{config_of}

-- a factor for each price
abbrev pub Factors : Type 0
Factors = Price → ℕ

-- the cost of a configuration, in hundredths: each price times its factor, as often as the configuration pays it
unfoldable pub cost_times : Factors → PriceList → List Price → Configuration → ℕ
cost_times factors prices all config =
    sum_by (λ price. factors price * (amount price prices * payments price config)) all

-- a row of a study at these factors
abbrev pub row_times : Factors → DesignSpace → FrontRow → FrontRow
row_times factors s r = record {
  row = r.row;
  cost = cost_times factors s.prices (prices_of s) (config_of s r);
  cycles = r.cycles;
}

-- the row is on the front of all rows at these factors
abbrev pub is_on_at : Factors → DesignSpace → FrontRow → Bool
is_on_at factors s r = is_on (front_of (map (row_times factors s) (all_rows s))) r.row

-- if each factor is 100, a row has its stated cost
abbrev pub IsStatedAtHundred : Type 0
IsStatedAtHundred = (s : DesignSpace) (r : FrontRow) → IsStudy s → Contains (all_rows s) r
    → (row_times (λ price. 100) s r).cost ≡ 100 * r.cost

-- a row of the front stays on it if all prices are wrong by at most its percentage
abbrev pub StaysWithinPercent : Type 0
StaysWithinPercent = (s : DesignSpace) (factors : Factors) (r : FrontRow) → IsStudy s → Contains (front_of_study s) r
    → AreWithin (percent_of s r) factors → is_on_at factors s r ≡ true

-- and at any prices if that is 100
abbrev pub StaysIfHundred : Type 0
StaysIfHundred = (s : DesignSpace) (factors : Factors) (r : FrontRow) → IsStudy s → Contains (front_of_study s) r
    → percent_of s r ≡ 100 → is_on_at factors s r ≡ true

-- if it is less, then with one percent more there are prices at which the row is off the front
pub record LeavesAt (s : DesignSpace) (r : FrontRow) (percent : ℕ) : Type 0 where
  pub factors : Factors
  pub within : AreWithin percent factors
  pub off : is_on_at factors s r ≡ false

abbrev pub LeavesBeyondPercent : Type 0
LeavesBeyondPercent = (s : DesignSpace) (r : FrontRow) → IsStudy s → Contains (front_of_study s) r
    → percent_of s r < 100 → LeavesAt s r (percent_of s r + 1)
