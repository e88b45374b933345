-- The text so far, and the pools to come.
use Rattle.std.proofs.Common.{◌≡◌, ◌++◌, drop}
use Rattle.std.specs.Prelude.{string_bytes}
use Rattle.std.specs.List.{flat_map}
use Rattle.tomex_frames.specs.Blank.{blank_pool}
use Rattle.tomex_frames.proofs.blank.push_blank_pools.Given as goal

abbrev pub invariant-loop-pool : goal.invariant-loop-pool
invariant-loop-pool g l =
    string_bytes l.text ++ flat_map (blank_pool l.config) (drop l.pool-index l.pools)
    ≡ string_bytes l.fn.text ++ flat_map (blank_pool l.config) l.pools
