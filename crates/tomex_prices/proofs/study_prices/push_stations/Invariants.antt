-- The prices so far.
use Rattle.std.proofs.Common.{◌≡◌, ◌++◌, map, take}
use Rattle.tomex_config.specs.Cost.{all_pools}
use Rattle.tomex_prices.specs.declared.price.Price.TheVariants.{Station}
use Rattle.tomex_prices.proofs.study_prices.push_stations.Given as goal

abbrev pub invariant-loop-pool : goal.invariant-loop-pool
invariant-loop-pool g l = l.prices.items ≡ l.fn.prices.items ++ map Station (take l.pool-index all_pools)
