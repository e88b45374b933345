-- Pools and kinds of units have places below their number.
use Rattle.std.proofs.Common.{◌<◌, arith}
use Rattle.tomex_rvdec.specs.Places.{place_of_pool, place_of_unit}
use Rattle.tomex_rvdec.specs.declared.pool.PoolId.{PoolId}
use Rattle.tomex_rvdec.specs.declared.pool.PoolId.TheVariants as pools
use Rattle.tomex_rvdec.specs.declared.pool.UnitId.{UnitId}
use Rattle.tomex_rvdec.specs.declared.pool.UnitId.TheVariants as units

pub pool_low : (pool : PoolId) → place_of_pool pool < 6
pool_low pools.Alu = omega arith
pool_low pools.Mul = omega arith
pool_low pools.Div = omega arith
pool_low pools.Load = omega arith
pool_low pools.Store = omega arith
pool_low pools.Bru = omega arith

pub unit_low : (unit : UnitId) → place_of_unit unit < 5
unit_low units.Alu = omega arith
unit_low units.Mul = omega arith
unit_low units.Div = omega arith
unit_low units.Mem = omega arith
unit_low units.Bru = omega arith
