-- The configurations that are made one axis after another are the product of the axes.
use Rattle.std.proofs.Common.{◌≡◌, ◌∙◌, ℕ, List, [], ◌∷◌, ◌++◌, map, refl, sym, ap}
use Rattle.std.specs.List.{flat_map}
use Rattle.std.proofs.lemmas.List.Folds.{flat_map-map}
use Rattle.std.proofs.lemmas.Grind.{flat_map-append}
use Rattle.std.proofs.lemmas.List.{append-nil}
use Rattle.tomex_rvdec.specs.declared.pool.PoolId.TheVariants as pools
use Rattle.tomex_rvdec.specs.declared.pool.UnitId.TheVariants as units
use Rattle.tomex_config.specs.declared.config.UnitOption.{UnitOption}
use Rattle.tomex_config.specs.Configuration.{Configuration, plain, with_stations, with_option, with_buses, with_width}
use Rattle.tomex_config.specs.Grid.{Lists, rows_of}
use Rattle.tomex_config.specs.Vary.{vary, bus_rows}

-- the part that an axis replaces, and its values
pub data Axis : Type 0 where
  counts : (Configuration → ℕ → Configuration) → List ℕ → Axis
  options : (Configuration → UnitOption → Configuration) → List UnitOption → Axis

-- one axis after another
abbrev chained : List Axis → List Configuration → List Configuration
chained [] rows = rows
chained (counts part values ∷ axes) rows = chained axes (vary part values rows)
chained (options part values ∷ axes) rows = chained axes (vary part values rows)

-- each choice of a value from each axis
abbrev pub chosen : List Axis → Configuration → List Configuration
chosen [] config = config ∷ []
chosen (counts part values ∷ axes) config = flat_map (λ value. chosen axes (part config value)) values
chosen (options part values ∷ axes) config = flat_map (λ value. chosen axes (part config value)) values

flat_map-self : (rows : List Configuration) → flat_map (λ config. config ∷ []) rows ≡ rows
flat_map-self [] = refl
flat_map-self (config ∷ rows) = ap (λ rest. config ∷ rest) (flat_map-self rows)

-- one more axis, before the remaining ones
flat_map-vary : {V : Type 0} (follows : Configuration → List Configuration) (part : Configuration → V → Configuration)
    (values : List V) (rows : List Configuration)
    → flat_map follows (vary part values rows)
    ≡ flat_map (λ config. flat_map (λ value. follows (part config value)) values) rows
flat_map-vary follows part values [] = refl
flat_map-vary follows part values (config ∷ rows) =
    flat_map-append follows (map (part config) values) (vary part values rows)
    ∙ ap (λ first. first ++ flat_map follows (vary part values rows)) (flat_map-map follows (part config) values)
    ∙ ap (λ rest. flat_map (λ value. follows (part config value)) values ++ rest)
    (flat_map-vary follows part values rows)

chained-chosen : (axes : List Axis) (rows : List Configuration) → chained axes rows ≡ flat_map (chosen axes) rows
chained-chosen [] rows = sym (flat_map-self rows)
chained-chosen (counts part values ∷ axes) rows =
    chained-chosen axes (vary part values rows) ∙ flat_map-vary (chosen axes) part values rows
chained-chosen (options part values ∷ axes) rows =
    chained-chosen axes (vary part values rows) ∙ flat_map-vary (chosen axes) part values rows

abbrev pub all_axes : Lists → List Axis
all_axes axes =
    counts (with_stations pools.Alu) axes.alu
    ∷ counts (with_stations pools.Mul) axes.mul
    ∷ counts (with_stations pools.Div) axes.div
    ∷ counts (with_stations pools.Load) axes.load
    ∷ counts (with_stations pools.Store) axes.store
    ∷ counts (with_stations pools.Bru) axes.bru
    ∷ options (with_option units.Alu) axes.alu_units
    ∷ options (with_option units.Mul) axes.mul_units
    ∷ options (with_option units.Div) axes.div_units
    ∷ options (with_option units.Mem) axes.mem_units
    ∷ options (with_option units.Bru) axes.bru_units
    ∷ counts with_buses axes.buses
    ∷ counts with_width axes.width
    ∷ []

flat_map-one : (follows : Configuration → List Configuration) (config : Configuration)
    → flat_map follows (config ∷ []) ≡ follows config
flat_map-one follows config = append-nil (follows config)

pub varied_rows : (axes : Lists) → vary with_width axes.width (bus_rows axes) ≡ rows_of axes
unfolding rows_of
varied_rows axes = chained-chosen (all_axes axes) (plain ∷ []) ∙ flat_map-one (chosen (all_axes axes)) plain
