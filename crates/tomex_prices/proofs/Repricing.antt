-- The front of configurations with one price replaced.
use Rattle.std.proofs.Common.{◌≡◌, ◌∙◌, ℕ, suc, ap, sym, refl, subst, List, [], ◌∷◌, All}
use Rattle.std.specs.Prelude.{map}
use Rattle.std.proofs.lemmas.List.Elements.{All-head, All-tail}
use Rattle.tomex_config.specs.Configuration.{Configuration, IsWithinLimits}
use Rattle.tomex_config.specs.Cost.{IsPriceList, PriceList, cost_of}
use Rattle.tomex_pareto.specs.Front.{front_of, is_on, rows_from}
use Rattle.tomex_pareto.specs.Pareto.{AreNumbered}
use Rattle.tomex_pareto.specs.declared.front_row.FrontRow.{FrontRow}
use Rattle.tomex_pareto.proofs.Rows.{rows_numbered}
use Rattle.tomex_pareto.specs.Spans.{as_cost}
use Rattle.tomex_study.specs.Study.{costs_of}
use Rattle.tomex_prices.specs.declared.price.Price.{Price}
use Rattle.tomex_prices.specs.Price.{amount}
use Rattle.tomex_prices.specs.Repriced.{IsOnRepricedExactlyWithin, cost_with, costs_with, priced_from}
use Rattle.tomex_prices.proofs.Splitting.{costs_split, stated_costs_stay}
use Rattle.tomex_prices.proofs.Within.{on_front_within}

-- at q, the rows with a price apart are the rows with the costs at q
rows_at : (price : Price) (prices : PriceList) (q n : ℕ) (cs : List Configuration) (ys : List ℕ) → IsPriceList prices
    → All IsWithinLimits cs
    → map (as_cost q) (priced_from price prices n cs ys) ≡ rows_from n (costs_with price q prices cs) ys
rows_at price prices q n [] ys list good = refl
rows_at price prices q n (c ∷ cs) [] list good = refl
rows_at price prices q n (c ∷ cs) (y ∷ ys) list good =
    let e = sym (costs_split price q prices c list (All-head IsWithinLimits c cs good)) in
    let ih = rows_at price prices q (suc n) cs ys list (All-tail IsWithinLimits c cs good) in
    ap (λ (x : ℕ). record { row = n; cost = x; cycles = y }
    ∷ map (as_cost q) (priced_from price prices (suc n) cs ys)) e
    ∙ ap (λ (rows : List FrontRow). record { row = n; cost = cost_with price q prices c; cycles = y } ∷ rows) ih

pub stated_costs : (price : Price) (prices : PriceList) (cs : List Configuration) → IsPriceList prices
    → All IsWithinLimits cs → costs_with price (amount price prices) prices cs ≡ costs_of prices cs
stated_costs price prices [] list good = refl
stated_costs price prices (c ∷ cs) list good =
    let e = stated_costs_stay price prices c list (All-head IsWithinLimits c cs good) in
    let ih = stated_costs price prices cs list (All-tail IsWithinLimits c cs good) in
    ap (λ (x : ℕ). x ∷ costs_with price (amount price prices) prices cs) e
    ∙ ap (λ (xs : List ℕ). cost_of c prices ∷ xs) ih

-- at the stated price, they are the rows as stated
pub rows_stated : (price : Price) (prices : PriceList) (cs : List Configuration) (ys : List ℕ) → IsPriceList prices
    → All IsWithinLimits cs
    → map (as_cost (amount price prices)) (priced_from price prices 0 cs ys) ≡ rows_from 0 (costs_of prices cs) ys
rows_stated price prices cs ys list good =
    rows_at price prices (amount price prices) 0 cs ys list good
    ∙ ap (λ (xs : List ℕ). rows_from 0 xs ys) (stated_costs price prices cs list good)

pub rows_numbered_at : (price : Price) (prices : PriceList) (cs : List Configuration) (ys : List ℕ) → IsPriceList prices
    → All IsWithinLimits cs → AreNumbered (map (as_cost (amount price prices)) (priced_from price prices 0 cs ys))
rows_numbered_at price prices cs ys list good =
    subst AreNumbered (sym (rows_stated price prices cs ys list good)) (rows_numbered (costs_of prices cs) ys)

pub on_repriced_within : IsOnRepricedExactlyWithin
on_repriced_within price prices configs cycles q r list good few one here =
    let rows = priced_from price prices 0 configs cycles in
    ap (λ (xs : List FrontRow). is_on (front_of xs) r.row) (sym (rows_at price prices q 0 configs cycles list good))
    ∙ on_front_within (amount price prices) q rows r few
    (rows_numbered_at price prices configs cycles list good) one
    (ap (λ (xs : List FrontRow). is_on (front_of xs) r.row) (rows_stated price prices configs cycles list good) ∙ here)
