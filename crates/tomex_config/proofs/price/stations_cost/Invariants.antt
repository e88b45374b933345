-- The stations of the pools so far are in the total.
use Rattle.std.proofs.Common.{◌≡◌, ◌*◌, ◌≤◌, take, sum_by}
use Rattle.tomex_config.specs.Configuration.{stations_of}
use Rattle.tomex_config.specs.Cost.{price_of, all_pools}
use Rattle.tomex_config.proofs.price.stations_cost.Given as goal

abbrev pub invariant-loop-pool : goal.invariant-loop-pool
invariant-loop-pool l = record {
  cost : l.total ≡ sum_by (λ pool. stations_of l.config pool * price_of l.prices pool) (take l.pool-index all_pools);
  bound : l.total ≤ l.pool-index * 16000000;
}
