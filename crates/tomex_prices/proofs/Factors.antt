-- All prices wrong at once: a row of the front stays within its percentage, and with one percent more it may not.
use Rattle.std.proofs.Common.{◌∙◌, ℕ}
use Rattle.tomex_pareto.specs.declared.front_row.FrontRow.{FrontRow}
use Rattle.tomex_pareto.proofs.Pareto.{among}
use Rattle.tomex_pareto.proofs.Factors as spans
use Rattle.tomex_study.specs.Study.{DesignSpace}
use Rattle.tomex_study.specs.StudyFront.{all_rows}
use Rattle.tomex_prices.specs.declared.price.Price.{Price}
use Rattle.tomex_prices.specs.AllPrices.{Factors, IsStatedAtHundred, LeavesBeyondPercent, StaysIfHundred}
use Rattle.tomex_prices.specs.AllPrices.{StaysWithinPercent, cost_times}
use Rattle.tomex_prices.specs.Percent.{difference, percent_of}
use Rattle.tomex_prices.specs.Price.{payments, amount}
use Rattle.tomex_prices.specs.Prices.{prices_of}
use Rattle.tomex_prices.specs.Studies.{config_of}
use Rattle.tomex_prices.proofs.NewCosts.{on_with_costs, row_shares}
use Rattle.tomex_study.proofs.StudyFronts.{front_free}

-- a study's prices as amounts, and how often a row pays them

abbrev stated : DesignSpace → Price → ℕ
stated s price = amount price s.prices

abbrev paid : DesignSpace → Price → FrontRow → ℕ
paid s price r = payments price (config_of s r)

abbrev cost_at : Factors → DesignSpace → FrontRow → ℕ
cost_at factors s r = cost_times factors s.prices (prices_of s) (config_of s r)

pub stays_within : StaysWithinPercent
unfolding cost_times difference percent_of
stays_within s factors r is one within =
    let free = front_free s r one in
    on_with_costs (cost_at factors s) s r free.0
    ∙ spans.stays_within (stated s) (paid s) (prices_of s) (all_rows s) (λ x there. row_shares s x is there) factors r
    free.0 free.1 within

pub stays_if_hundred : StaysIfHundred
unfolding cost_times difference percent_of
stays_if_hundred s factors r is one hundred =
    let free = front_free s r one in
    on_with_costs (cost_at factors s) s r free.0
    ∙ spans.stays_if_hundred (stated s) (paid s) (prices_of s) (all_rows s) (λ x there. row_shares s x is there)
    factors r free.0 free.1 hundred

pub leaves_beyond : LeavesBeyondPercent
unfolding cost_times difference percent_of
leaves_beyond s r is one few =
    let free = front_free s r one in
    let it = spans.leaves_beyond (stated s) (paid s) (prices_of s) (all_rows s) (λ x there. row_shares s x is there) r
    free.0 free.1 few in
    record {
      factors = it.factors;
      within = it.within;
      off = on_with_costs (cost_at it.factors s) s r free.0 ∙ it.off;
    }

pub stated_at_hundred : IsStatedAtHundred
unfolding cost_times
stated_at_hundred s r is one =
    spans.at_hundred (stated s) (paid s) (prices_of s) (all_rows s) (λ x there. row_shares s x is there) r
    (among (all_rows s) r one)
