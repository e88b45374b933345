-- The order of the pools and of the kinds of units, as lists over them are indexed, and their names.
use Rattle.std.specs.Prelude.{ℕ, List, codes}
use Rattle.tomex_rvdec.specs.declared.pool.PoolId.{PoolId}
use Rattle.tomex_rvdec.specs.declared.pool.PoolId.TheVariants as pools
use Rattle.tomex_rvdec.specs.declared.pool.UnitId.{UnitId}
use Rattle.tomex_rvdec.specs.declared.pool.UnitId.TheVariants as units

abbrev pub place_of_pool : PoolId → ℕ
place_of_pool pools.Alu = 0
place_of_pool pools.Mul = 1
place_of_pool pools.Div = 2
place_of_pool pools.Load = 3
place_of_pool pools.Store = 4
place_of_pool pools.Bru = 5

abbrev pub place_of_unit : UnitId → ℕ
place_of_unit units.Alu = 0
place_of_unit units.Mul = 1
place_of_unit units.Div = 2
place_of_unit units.Mem = 3
place_of_unit units.Bru = 4

abbrev pub name_of_pool : PoolId → List ℕ
name_of_pool pools.Alu = codes "alu"
name_of_pool pools.Mul = codes "mul"
name_of_pool pools.Div = codes "div"
name_of_pool pools.Load = codes "load"
name_of_pool pools.Store = codes "store"
name_of_pool pools.Bru = codes "bru"

abbrev pub name_of_unit : UnitId → List ℕ
name_of_unit units.Alu = codes "alu"
name_of_unit units.Mul = codes "mul"
name_of_unit units.Div = codes "div"
name_of_unit units.Mem = codes "mem"
name_of_unit units.Bru = codes "bru"
