-- Each pool is one of all.
use Rattle.std.proofs.Common.{◌≤◌, arith, refl}
use Rattle.tomex_states.proofs.Alike.{of_all_pools}
use Rattle.tomex_config.specs.Configuration.{stations_of}
use Rattle.tomex_states.specs.Reuse.{IsPoolAlike}
use Rattle.tomex_states.proofs.compare.are_stations_alike.Goals as goal

pub returns : goal.returns
returns c =
    let all : 6 ≤ c.loop-pool.pool-index = omega arith in (
      λ e. of_all_pools (λ pool. IsPoolAlike (stations_of c.args.config.now pool) pool c.args.here c.args.there
          c.args.one.now.ends c.args.other.now.ends)
          (λ k z l. c.loop-pool.invariant k z (omega arith)),
      λ alike. refl,
    )

pub loop-pool-preserved : goal.loop-pool-preserved
loop-pool-preserved = grind arith
