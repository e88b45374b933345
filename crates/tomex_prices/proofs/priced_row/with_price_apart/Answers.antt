-- A cost is the cost without the price, plus the price as often as it is paid.
use Rattle.std.proofs.lemmas.Grind.{common_steps}
use Rattle.std.proofs.Common.{◌≡◌, ◌∙◌, ◌+◌, ◌-◌, ◌*◌, ℕ, arith, ap, refl, sym}
use Rattle.tomex_config.specs.Configuration.{Configuration, IsWithinLimits}
use Rattle.tomex_config.specs.Cost.{IsPriceList, PriceList, cost_of}
use Rattle.tomex_prices.specs.declared.price.Price.{Price}
use Rattle.tomex_prices.specs.Price.{payments, amount}
use Rattle.tomex_prices.specs.Repriced.{cost_with}
use Rattle.tomex_prices.proofs.Splitting.{costs_split, stated_costs_stay}
use Rattle.tomex_prices.proofs.priced_row.with_price_apart.Goals as goal

in_parts : (price : Price) (prices : PriceList) (config : Configuration) (cost now times : ℕ) → IsPriceList prices
    → IsWithinLimits config → cost ≡ cost_of config prices → now ≡ amount price prices → times ≡ payments price config
    → cost ≡ cost_with price 0 prices config + now * times
in_parts price prices config cost now times list good all is often =
    all
    ∙ (sym (stated_costs_stay price prices config list good)
    ∙ (costs_split price (amount price prices) prices config list good
    ∙ (ap (λ (n : ℕ). cost_with price 0 prices config + n * payments price config) (sym is)
    ∙ ap (λ (n : ℕ). cost_with price 0 prices config + now * n) (sym often))))

pub overflow_sub-rest : goal.overflow_sub-rest
overflow_sub-rest c =
    let parts = in_parts c.args.price c.args.prices.now c.args.config.now _ _ _ c.keeps_limits.ensures
    c.keeps_limits-2.ensures c.cost.ensures.cost c.amount.ensures.price c.payments-times.ensures.payments in
    omega (arith, parts)

pub returns-clause-parts : goal.returns-clause-parts
returns-clause-parts c =
    let parts = in_parts c.args.price c.args.prices.now c.args.config.now _ _ _ c.keeps_limits.ensures
    c.keeps_limits-2.ensures c.cost.ensures.cost c.amount.ensures.price c.payments-times.ensures.payments in
    let left : c.cost.result - c.amount.result * c.payments-times.result
    ≡ cost_with c.args.price 0 c.args.prices.now c.args.config.now = omega (arith, parts) in
    rw (left, c.payments-times.ensures.payments) refl

pub overflow_mul-rest : goal.overflow_mul-rest
overflow_mul-rest = grind (arith, common_steps)
