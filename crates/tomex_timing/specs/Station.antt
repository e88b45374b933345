-- Reservation stations: which are held in a cycle, and which one a step takes.
use Rattle.std.specs.Prelude.{ℕ, nat_lt, nat_le, Bool, true, not, ◌&&◌, List, Option, Some, None, count_by}
use Rattle.std.specs.List.{list_all}
use Rattle.tomex_rvdec.specs.declared.pool.PoolId.{PoolId}
use Rattle.tomex_rvexec.specs.Steps.{step_pool, is_in, is_number}
use Rattle.tomex_config.specs.Configuration.{Configuration, stations_of}
use Rattle.tomex_timing.specs.declared.times.Done.{Done}

-- the step still has a station of the pool in the cycle; if it ends in it, it frees the station after it
abbrev pub is_held : PoolId → ℕ → Done → Bool
is_held pool t d = is_in pool (step_pool d.step) && nat_le t d.at.end

-- a station of the pool is free
abbrev pub has_station : Configuration → List Done → Option PoolId → ℕ → Bool
has_station config older None t = true
has_station config older (Some pool) t = nat_lt (count_by (is_held pool t) older) (stations_of config pool)

-- no older step has the pool's station of this number in the cycle
abbrev pub is_free : PoolId → List Done → ℕ → ℕ → Bool
is_free pool older t n = list_all (λ d. not (is_held pool t d && is_number d.at.station n)) older
