-- The options for each kind of functional unit.
use Rattle.std.specs.Prelude.{ℕ, ◌+◌, List, [], ◌∷◌, Option, Some, None, Ok, Err, option_map}
use Rattle.toml.specs.Data.{Items, no_items, item, Members, as_table}
use Rattle.tomex_rvdec.specs.declared.pool.UnitId.{UnitId}
use Rattle.tomex_config.specs.declared.config.UnitOption.{UnitOption}
use Rattle.tomex_config.specs.Configuration.{most_units, plain_option}
use Rattle.tomex_values.specs.declared.place.Key.TheVariants as key
use Rattle.tomex_values.specs.declared.place.Place.{Place}
use Rattle.tomex_values.specs.declared.place.Place.TheVariants as place
use Rattle.tomex_values.specs.declared.error.DocumentError.TheVariants.{Kind}
use Rattle.tomex_values.specs.Place.{key_of_unit}
use Rattle.tomex_values.specs.Readings.{Reading, ◌>>=◌}
use Rattle.tomex_values.specs.Table.{known_keys}
use Rattle.tomex_values.specs.Numbers.{between, number_at}
use Rattle.tomex_values.specs.Lists.{tables_at}

-- the tables of each kind, if the document has them
pub record UnitTables : Type 0 where
  pub alu : Option Items
  pub mul : Option Items
  pub div : Option Items
  pub mem : Option Items
  pub bru : Option Items

-- slices of tables, as documents see them
abbrev pub tables_of : {S : Type 0} → (S → Items) → (alu mul div mem bru : Option S) → UnitTables
tables_of seen alu mul div mem bru = record {
  alu = option_map seen alu;
  mul = option_map seen mul;
  div = option_map seen div;
  mem = option_map seen mem;
  bru = option_map seen bru;
}

-- the tables of options that the table of units gives
unfoldable pub unit_tables : Members → Reading UnitTables
unit_tables members = do
  _ ← known_keys place.Unit (key.Alu ∷ key.Mul ∷ key.Div ∷ key.Mem ∷ key.Bru ∷ []) members
  alu ← tables_at place.Unit key.Alu members
  mul ← tables_at place.Unit key.Mul members
  div ← tables_at place.Unit key.Div members
  mem ← tables_at place.Unit key.Mem members
  bru ← tables_at place.Unit key.Bru members
  Ok (record { alu = alu; mul = mul; div = div; mem = mem; bru = bru })

-- an option with at most `most` units
unfoldable pub option_of : Place → ℕ → Members → Reading UnitOption
option_of place most members = do
  _ ← known_keys place (key.Units ∷ key.Latency ∷ key.Price ∷ []) members
  units ← number_at place key.Units (between 1 most) 1 members
  latency ← number_at place key.Latency (between 1 64) 1 members
  price ← number_at place key.Price (between 0 1000000) 0 members
  Ok (record { units = units; latency = latency; price = price })

-- an option, or a value that is no table
abbrev pub option_from : UnitId → ℕ → Option Members → Reading UnitOption
option_from unit number None = Err (Kind place.Unit (key_of_unit unit))
option_from unit number (Some members) = option_of (place.Option unit number) (most_units unit) members

-- the options of these tables, from that number on
abbrev pub options_from : UnitId → ℕ → Items → Reading (List UnitOption)
options_from unit number no_items = Ok []
options_from unit number (item value values) =
    option_from unit number (as_table value)
    >>= (λ option. options_from unit (number + 1) values >>= (λ options. Ok (option ∷ options)))

-- the options of a kind; one plain option if it is absent
abbrev pub options_of : UnitId → Option Items → Reading (List UnitOption)
options_of unit None = Ok (plain_option ∷ [])
options_of unit (Some tables) = options_from unit 1 tables
