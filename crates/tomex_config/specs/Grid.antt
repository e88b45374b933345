-- The grid of some axes: the product of their lists, or why there is none.
use Rattle.std.specs.Prelude.{◌≡◌, ℕ, ◌*◌, ◌&&◌, ◌==◌, nat_lt, not, Bool, List}
use Rattle.std.specs.Prelude.{[], ◌∷◌, length, if◌then◌else◌, Result, Ok, Err}
use Rattle.std.specs.List.{flat_map, list_all, list_any}
use Rattle.tomex_config.specs.Configuration.{Configuration, is_between, is_option}
use Rattle.tomex_config.specs.declared.config.UnitOption.{UnitOption}
use Rattle.tomex_config.specs.declared.axis.Axes.{Axes}
use Rattle.tomex_config.specs.declared.product.GridError.{GridError}
use Rattle.tomex_config.specs.declared.product.GridError.TheVariants.{EmptyAxis, OutOfRange, TooMany, Memory}

-- the values of each axis
pub record Lists : Type 0 where
  pub alu : List ℕ
  pub mul : List ℕ
  pub div : List ℕ
  pub load : List ℕ
  pub store : List ℕ
  pub bru : List ℕ
  pub alu_units : List UnitOption
  pub mul_units : List UnitOption
  pub div_units : List UnitOption
  pub mem_units : List UnitOption
  pub bru_units : List UnitOption
  pub buses : List ℕ
  pub width : List ℕ

abbrev pub lists_of : {A : Type 0} → Axes A → Lists
lists_of axes = record {
  alu = axes.alu.items;
  mul = axes.mul.items;
  div = axes.div.items;
  load = axes.load.items;
  store = axes.store.items;
  bru = axes.bru.items;
  alu_units = axes.alu_units.items;
  mul_units = axes.mul_units.items;
  div_units = axes.div_units.items;
  mem_units = axes.mem_units.items;
  bru_units = axes.bru_units.items;
  buses = axes.buses.items;
  width = axes.width.items;
}

-- the concatenation of the lists that follow for each value
infixl 20 ◌>>=◌
abbrev ◌>>=◌ : {X Y : Type 0} → List X → (X → List Y) → List Y
values >>= follows = flat_map follows values

-- the product of the lists: each choice of a value from each, the last list fastest
unfoldable pub rows_of : Lists → List Configuration
rows_of axes = do
  alu ← axes.alu
  mul ← axes.mul
  div ← axes.div
  load ← axes.load
  store ← axes.store
  bru ← axes.bru
  alu_units ← axes.alu_units
  mul_units ← axes.mul_units
  div_units ← axes.div_units
  mem_units ← axes.mem_units
  bru_units ← axes.bru_units
  buses ← axes.buses
  width ← axes.width
  record {
    stations = alu ∷ mul ∷ div ∷ load ∷ store ∷ bru ∷ [];
    units = alu_units ∷ mul_units ∷ div_units ∷ mem_units ∷ bru_units ∷ [];
    buses = buses;
    width = width;
  } ∷ []

abbrev pub lengths : Lists → List ℕ
lengths axes =
    length axes.alu ∷ length axes.mul ∷ length axes.div ∷ length axes.load ∷ length axes.store ∷ length axes.bru
    ∷ length axes.alu_units ∷ length axes.mul_units ∷ length axes.div_units ∷ length axes.mem_units
    ∷ length axes.bru_units
    ∷ length axes.buses ∷ length axes.width ∷ []

abbrev pub has_zero : List ℕ → Bool
has_zero lengths = list_any (λ n. n == 0) lengths

unfoldable pub has_empty : Lists → Bool
has_empty axes = has_zero (lengths axes)

abbrev pub stations_in_range : Lists → Bool
stations_in_range axes =
    list_all (is_between 1 16) axes.alu && list_all (is_between 1 16) axes.mul && list_all (is_between 1 16) axes.div
    && list_all (is_between 1 16) axes.load && list_all (is_between 1 16) axes.store
    && list_all (is_between 1 16) axes.bru

-- there is only one branch unit
abbrev pub options_in_range : Lists → Bool
options_in_range axes =
    list_all (is_option 8) axes.alu_units && list_all (is_option 8) axes.mul_units
    && list_all (is_option 8) axes.div_units
    && list_all (is_option 8) axes.mem_units && list_all (is_option 1) axes.bru_units

abbrev pub rest_in_range : Lists → Bool
rest_in_range axes = list_all (is_between 1 8) axes.buses && list_all (is_between 1 4) axes.width

unfoldable pub in_range : Lists → Bool
in_range axes = stations_in_range axes && (options_in_range axes && rest_in_range axes)

abbrev pub product : List ℕ → ℕ
product [] = 1
product (n ∷ ns) = n * product ns

-- the most configurations of a study
abbrev pub most_rows : ℕ
most_rows = 16384

unfoldable pub is_above_limit : List ℕ → Bool
is_above_limit lengths = nat_lt most_rows (product lengths)

-- more configurations than a study may have
abbrev pub is_too_large : Lists → Bool
is_too_large axes = is_above_limit (lengths axes)

-- the configurations of the axes, or the first of these faults
unfoldable pub grid_of : Lists → Result (List Configuration) GridError
grid_of axes =
    if has_empty axes then Err EmptyAxis
    else if not (in_range axes) then Err OutOfRange
    else if is_too_large axes then Err TooMany
    else Ok (rows_of axes)

-- the grid was returned, or memory ran out
abbrev pub Fails : GridError → Result (List Configuration) GridError → Type 0
Fails Memory grid = Unit {0}
Fails error grid = grid ≡ Err error

abbrev pub Gives
    : {X : Type 0} → (X → List Configuration) → Result X GridError → Result (List Configuration) GridError → Type 0
Gives view (Ok rows) grid = grid ≡ Ok (view rows)
Gives view (Err error) grid = Fails error grid
