-- Stations are numbered over all pools: 16 places a pool, in the order of the pools.
use Rattle.std.specs.Prelude.{ℕ, ◌+◌, ◌*◌, ◌/◌, ◌%◌, ◌==◌, Bool, ◌&&◌, nat_lt, if◌then◌else◌, Option, Some, None}
use Rattle.tomex_rvdec.specs.Operands.{unit_of_pool}
use Rattle.tomex_rvdec.specs.Places.{place_of_pool}
use Rattle.tomex_rvdec.specs.declared.pool.PoolId.{PoolId}
use Rattle.tomex_rvdec.specs.declared.pool.PoolId.TheVariants as pools
use Rattle.tomex_rvdec.specs.declared.pool.UnitId.{UnitId}
use Rattle.tomex_rvexec.specs.Steps.{is_in}
use Rattle.tomex_timing.specs.History.{is_of}
use Rattle.tomex_timing.specs.declared.tables.Tag.{Tag}

abbrev pub place_of_tag : Tag → ℕ
place_of_tag tag = 16 * place_of_pool tag.pool + tag.number

abbrev pub place_at : Option Tag → Option ℕ
place_at None = None
place_at (Some tag) = Some (place_of_tag tag)

abbrev pub pool_at : ℕ → PoolId
pool_at n =
    if n == 0 then pools.Alu else if n == 1 then pools.Mul else if n == 2 then pools.Div
    else if n == 3 then pools.Load else if n == 4 then pools.Store else pools.Bru

-- the station of a place
abbrev pub tag_at_place : ℕ → Tag
tag_at_place x = record { pool = pool_at (x / 16); number = x % 16 }

-- a place of a store buffer
abbrev pub is_store_place : ℕ → Bool
is_store_place x = nat_lt x 96 && is_in pools.Store (Some (pool_at (x / 16)))

-- the operations of the station in a place are run by this kind of unit
abbrev pub is_served : UnitId → ℕ → Bool
is_served unit x = nat_lt x 96 && is_of unit (Some (unit_of_pool (pool_at (x / 16))))
