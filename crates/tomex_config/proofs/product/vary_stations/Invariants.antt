-- The configurations so far, and the current configuration with the values so far.
use Rattle.std.proofs.Common.{◌≡◌, ◌++◌, take, map}
use Rattle.tomex_config.specs.Configuration.{with_stations}
use Rattle.tomex_config.specs.Vary.{vary}
use Rattle.tomex_config.proofs.product.vary_stations.Given as goal

abbrev pub invariant-loop-config : goal.invariant-loop-config
invariant-loop-config g l = l.varied.items ≡ vary (with_stations l.pool) l.counts (take l.config-index l.rows)

abbrev pub invariant-loop-count : goal.invariant-loop-count
invariant-loop-count g l = l.varied.items ≡ l.initial.varied.items
    ++ map ((with_stations l.pool) l.config) (take l.count-index l.counts)
