-- The stations of the pools so far are in the list.
use Rattle.std.proofs.Common.{◌≡◌, ◌++◌, map, take}
use Rattle.tomex_config.specs.Configuration.{stations_of}
use Rattle.tomex_config.specs.Cost.{all_pools}
use Rattle.tomex_texts.proofs.row_numbers.push_stations.Given as goal

abbrev pub invariant-loop-pool : goal.invariant-loop-pool
invariant-loop-pool l =
    l.numbers.items ≡ l.fn.numbers.items ++ map (stations_of l.config) (take l.pool-index all_pools)
