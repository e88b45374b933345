-- So far the pools' stations are free in the same cycles.
use Rattle.std.proofs.Common.{ℕ, ◌<◌, get_or}
use Rattle.tomex_rvdec.specs.declared.pool.PoolId.{PoolId}
use Rattle.tomex_config.specs.Configuration.{stations_of}
use Rattle.tomex_states.specs.Reuse.{IsPoolAlike}
use Rattle.tomex_states.proofs.compare.are_stations_alike.Given as goal

abbrev pub invariant-loop-pool : goal.invariant-loop-pool
invariant-loop-pool l = (k : ℕ) (z : PoolId) → k < l.pool-index
    → IsPoolAlike (stations_of l.config (get_or l.pool-items k z)) (get_or l.pool-items k z) l.here l.there l.one.ends
    l.other.ends
