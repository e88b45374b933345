-- The configurations made one axis after another, each part of a first configuration replaced in turn.
use Rattle.std.specs.Prelude.{List, [], ◌∷◌, map}
use Rattle.std.specs.List.{flat_map}
use Rattle.tomex_rvdec.specs.declared.pool.PoolId.TheVariants as pools
use Rattle.tomex_rvdec.specs.declared.pool.UnitId.TheVariants as units
use Rattle.tomex_config.specs.Configuration.{Configuration, plain, with_stations, with_option, with_buses}
use Rattle.tomex_config.specs.Grid.{Lists}

-- each configuration so far, once with each of the values
abbrev pub vary : {V : Type 0} → (Configuration → V → Configuration) → List V → List Configuration → List Configuration
vary with_value values rows = flat_map (λ config. map (with_value config) values) rows

abbrev pub station_rows : Lists → List Configuration
station_rows axes =
    vary (with_stations pools.Bru) axes.bru
    (vary (with_stations pools.Store) axes.store
    (vary (with_stations pools.Load) axes.load
    (vary (with_stations pools.Div) axes.div
    (vary (with_stations pools.Mul) axes.mul
    (vary (with_stations pools.Alu) axes.alu (plain ∷ []))))))

abbrev pub option_rows : Lists → List Configuration
option_rows axes =
    vary (with_option units.Bru) axes.bru_units
    (vary (with_option units.Mem) axes.mem_units
    (vary (with_option units.Div) axes.div_units
    (vary (with_option units.Mul) axes.mul_units
    (vary (with_option units.Alu) axes.alu_units (station_rows axes)))))

abbrev pub bus_rows : Lists → List Configuration
bus_rows axes = vary with_buses axes.buses (option_rows axes)
