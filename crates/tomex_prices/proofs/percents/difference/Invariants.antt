-- The sum of the prices so far.
use Rattle.std.proofs.Common.{◌≡◌, ◌*◌, ◌≤◌, ◌^◌, sum_by, take}
use Rattle.std.specs.Int.{abs_diff}
use Rattle.tomex_prices.specs.Price.{payments, amount}
use Rattle.tomex_prices.proofs.percents.difference.Given as goal

abbrev pub invariant-loop-price : goal.invariant-loop-price
invariant-loop-price l = record {
  sum : l.sum
      ≡ sum_by (λ price. amount price l.prices * abs_diff (payments price l.a) (payments price l.b))
      (take l.price-index l.all);
  bound : l.sum ≤ l.price-index * 2 ^ 36;
}
