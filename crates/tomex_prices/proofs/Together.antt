-- Prices that move together, each by a share of the way to an end of its interval.
use Rattle.std.proofs.Common.{◌≡◌, ◌∙◌, ◌+◌, ◌-◌, ◌*◌, ◌<◌, ◌≤◌, ℕ, ap, arith, true}
use Rattle.std.proofs.Common.{refl, sym, List, length}
use Rattle.std.specs.Prelude.{sum_by}
use Rattle.std.specs.List.{Contains}
use Rattle.tomex_config.specs.Configuration.{plain}
use Rattle.tomex_pareto.specs.Front.{is_undominated, rows_from}
use Rattle.tomex_pareto.specs.declared.front_row.FrontRow.{FrontRow}
use Rattle.tomex_pareto.proofs.Rows.{row_at}
use Rattle.tomex_pareto.proofs.Pareto.{Has, contains_has, free_undominated}
use Rattle.tomex_pareto.specs.Spans.{as_cost, measure_at, span, stays}
use Rattle.tomex_pareto.proofs.SpanEnds.{some_end}
use Rattle.tomex_pareto.proofs.NewCosts.{free_keeps, on_costed, premium}
use Rattle.tomex_pareto.proofs.Shares.{Counts, one_counts, slack, stays_less}
use Rattle.tomex_study.specs.Study.{DesignSpace, IsStudy}
use Rattle.tomex_study.specs.Cycles.{cycles_of}
use Rattle.tomex_study.specs.StudyFront.{all_rows, front_of_study}
use Rattle.tomex_study.proofs.Rows.{as_many_rows}
use Rattle.tomex_prices.specs.declared.price.Price.{Price}
use Rattle.tomex_prices.specs.declared.price.TheConstants.{GREATEST_PRICE}
use Rattle.tomex_prices.specs.Price.{payments, amount}
use Rattle.tomex_prices.specs.Prices.{prices_of}
use Rattle.tomex_prices.specs.Studies.{config_of, interval_of, row_with, rows_with}
use Rattle.tomex_prices.specs.Together.{IsShareOfWay, IsStatedAtStated, StaysByShares, Values, cost_at_values}
use Rattle.tomex_prices.proofs.NewCosts.{config_cost, on_with_costs, row_shares}
use Rattle.tomex_study.proofs.StudyFronts.{front_free}
use Rattle.tomex_prices.proofs.RepricedStudy.{row_at_apart}
use Rattle.tomex_prices.proofs.Repricing.{rows_stated}
use Rattle.tomex_prices.proofs.Splitting.{costs_split, stated_costs_stay}
use Rattle.tomex_prices.proofs.Within.{last_is}

-- a row with a price apart has the same cost
apart_cost : (s : DesignSpace) (price : Price) (r : FrontRow) → IsStudy s → Has (all_rows s) r
    → measure_at (amount price s.prices) (row_with s price r) ≡ r.cost
apart_cost s price r is one =
    let at = row_at 0 s.costs (cycles_of s) r one in
    let costs = as_many_rows s is in
    let low : r.row < length s.rows = (let w = at.within in let n = at.number in omega arith) in
    let config = config_of s r in
    let within = is.limits r.row plain low in
    sym (costs_split price (amount price s.prices) s.prices config is.prices within)
    ∙ (stated_costs_stay price s.prices config is.prices within ∙ config_cost s r is one)

-- and is undominated at the stated price if it is on the front
stays_stated : (s : DesignSpace) (price : Price) (r : FrontRow) → IsStudy s → Contains (front_of_study s) r
    → stays (amount price s.prices) (rows_with s price) (row_with s price r) ≡ true
stays_stated s price r is on =
    let free = front_free s r on in
    ap (λ (rows : List FrontRow). is_undominated rows (as_cost (amount price s.prices) (row_with s price r)))
    (rows_stated price s.prices s.rows (cycles_of s) is.prices is.limits
    ∙ ap (λ (costs : List ℕ). rows_from 0 costs (cycles_of s)) (sym is.costs))
    ∙ (ap (λ (cost : ℕ). is_undominated (all_rows s) (record { row = r.row; cost = cost; cycles = r.cycles }))
    (apart_cost s price r is free.0)
    ∙ free_undominated (all_rows s) r free.1)

-- all prices together

module _ (s : DesignSpace) (values : Values) (shares : Price → ℕ) (whole : ℕ) (r j : FrontRow) (is : IsStudy s)
    (on : Contains (front_of_study s) r) (there : Has (all_rows s) j) (fast : j.cycles ≤ r.cycles) where
  one : Has (all_rows s) r
  one = (front_free s r on).0

  abbrev gap : ℕ
  gap = j.cost - r.cost - premium r j

  -- how often a row pays a price
  abbrev paid : FrontRow → Price → ℕ
  paid x price = payments price (config_of s x)

  abbrev stated : Price → ℕ
  stated price = amount price s.prices

  slack_is : (price : Price) → slack (stated price) (row_with s price r) (row_with s price j) ≡ gap
  slack_is price = rw (apart_cost s price r is one, apart_cost s price j is there) refl

  price_counts : (price : Price)
      → IsShareOfWay (interval_of s price r) (stated price) (values price) (shares price) whole
      → Counts (stated price) (values price) (paid r price) (paid j price) whole (shares price) gap
  price_counts price moves =
      let own = row_with s price r in
      let rows = rows_with s price in
      let here = stays_stated s price r is on in
      let rival = row_at_apart s price j is (row_at 0 s.costs (cycles_of s) j there) in
      rw (slack_is price) at (one_counts 0 GREATEST_PRICE (stated price) (interval_of s price r).most own
      (row_with s price j) rows (omega arith) here
      (last_is (span 0 GREATEST_PRICE own rows) (some_end 0 GREATEST_PRICE (stated price) rows own (omega arith) here))
      rival fast (values price) whole (shares price) moves.up moves.down)

  -- so a rival stays dearer
  stays_dearer : ((price : Price)
      → IsShareOfWay (interval_of s price r) (stated price) (values price) (shares price) whole)
      → 0 < whole → sum_by shares (prices_of s) ≤ whole → r.cost + premium r j ≤ j.cost
      → sum_by (λ price. values price * paid r price) (prices_of s) + premium r j
      ≤ sum_by (λ price. values price * paid j price) (prices_of s)
  stays_dearer moves some few dear =
      stays_less stated values (paid r) (paid j) shares whole gap (prices_of s) r.cost j.cost (premium r j)
      (λ k price low. price_counts _ (moves _)) some few (row_shares s r is one) (row_shares s j is there) dear refl

pub stays_by_shares : StaysByShares
unfolding cost_at_values
stays_by_shares s values shares whole r is one some few moves =
    let free = front_free s r one in
    let cost : FrontRow → ℕ = λ x. sum_by (λ price. values price * payments price (config_of s x)) (prices_of s) in
    on_with_costs cost s r free.0
    ∙ on_costed cost (all_rows s) r (λ j there fast. stays_dearer s values shares whole r j is one there fast moves some
    few (free_keeps r j (free.1 j there) fast))

pub stated_at_stated : IsStatedAtStated
unfolding cost_at_values
stated_at_stated s r is one = row_shares s r is (contains_has (all_rows s) one.0 r one.1 one.2)
