-- The axes of the grid of configurations: counts of stations and buses, widths, and options of units.
use Rattle.std.specs.Prelude.{ℕ, List, [], ◌∷◌, Ok}
use Rattle.toml.specs.Data.{Members}
use Rattle.tomex_rvdec.specs.declared.pool.UnitId.TheVariants as units
use Rattle.tomex_config.specs.declared.config.UnitOption.{UnitOption}
use Rattle.tomex_config.specs.Grid.{Lists}
use Rattle.tomex_values.specs.declared.place.Key.TheVariants as key
use Rattle.tomex_values.specs.declared.place.Place.TheVariants as place
use Rattle.tomex_values.specs.Readings.{Reading, ◌>>=◌}
use Rattle.tomex_values.specs.Table.{known_keys}
use Rattle.tomex_values.specs.Lists.{counts_at}
use Rattle.tomex_document.specs.Units.{unit_tables, options_of}

-- the counts of stations and buses, and the widths
pub record Counts : Type 0 where
  pub alu : List ℕ
  pub mul : List ℕ
  pub div : List ℕ
  pub load : List ℕ
  pub store : List ℕ
  pub bru : List ℕ
  pub buses : List ℕ
  pub width : List ℕ

abbrev pub counts_of : (alu mul div load store bru buses width : List ℕ) → Counts
counts_of alu mul div load store bru buses width = record {
  alu = alu;
  mul = mul;
  div = div;
  load = load;
  store = store;
  bru = bru;
  buses = buses;
  width = width;
}

-- the counts that the table of axes gives
unfoldable pub axis_counts : Members → Reading Counts
axis_counts members = do
  _ ← known_keys place.Axes
      (key.Alu ∷ key.Mul ∷ key.Div ∷ key.Load ∷ key.Store ∷ key.Bru ∷ key.Buses ∷ key.Width ∷ []) members
  alu ← counts_at place.Axes key.Alu 16 members
  mul ← counts_at place.Axes key.Mul 16 members
  div ← counts_at place.Axes key.Div 16 members
  load ← counts_at place.Axes key.Load 16 members
  store ← counts_at place.Axes key.Store 16 members
  bru ← counts_at place.Axes key.Bru 16 members
  buses ← counts_at place.Axes key.Buses 8 members
  width ← counts_at place.Axes key.Width 4 members
  Ok (record { alu = alu; mul = mul; div = div; load = load; store = store; bru = bru; buses = buses; width = width })

-- the places of the unit, and then the options of each kind, from which the axes are made
abbrev pub unit_options : Members → (List UnitOption → List UnitOption → List UnitOption → List UnitOption
    → List UnitOption → Lists) → Reading Lists
unit_options unit whole = do
  tables ← unit_tables unit
  alu ← options_of units.Alu tables.alu
  mul ← options_of units.Mul tables.mul
  div ← options_of units.Div tables.div
  mem ← options_of units.Mem tables.mem
  bru ← options_of units.Bru tables.bru
  Ok (whole alu mul div mem bru)

-- the axes, of counts and of the options of each kind of unit
abbrev pub with_options : Counts → (alu mul div mem bru : List UnitOption) → Lists
with_options counts alu mul div mem bru = record {
  alu = counts.alu;
  mul = counts.mul;
  div = counts.div;
  load = counts.load;
  store = counts.store;
  bru = counts.bru;
  alu_units = alu;
  mul_units = mul;
  div_units = div;
  mem_units = mem;
  bru_units = bru;
  buses = counts.buses;
  width = counts.width;
}

-- the places of the axes, and then those of the unit
unfoldable pub axes_of : Members → Members → Reading Lists
axes_of axes unit = do
  counts ← axis_counts axes
  unit_options unit (λ alu mul div mem bru. with_options counts alu mul div mem bru)
