-- The relevant ones of the prices so far.
use Rattle.std.proofs.Common.{◌≡◌, ◌≤◌, length, map, take}
use Rattle.std.specs.List.{filter}
use Rattle.tomex_config.specs.Cost.{all_pools}
use Rattle.tomex_prices.specs.Prices.{is_relevant}
use Rattle.tomex_prices.specs.declared.price.Price.TheVariants.{Station}
use Rattle.tomex_prices.proofs.counts.count_stations.Given as goal

abbrev pub invariant-loop-pool : goal.invariant-loop-pool
invariant-loop-pool l = record {
  count : l.count ≡ length (filter (is_relevant l.rows) (map Station (take l.pool-index all_pools)));
  few : l.count ≤ l.pool-index;
}
