-- The prices of stations, buses and widths.
use Rattle.std.specs.Prelude.{ℕ, [], ◌∷◌, Ok}
use Rattle.toml.specs.Data.{Members}
use Rattle.tomex_config.specs.Cost.{PriceList}
use Rattle.tomex_values.specs.declared.place.Key.{Key}
use Rattle.tomex_values.specs.declared.place.Key.TheVariants as key
use Rattle.tomex_values.specs.declared.place.Place.TheVariants as place
use Rattle.tomex_values.specs.Readings.{Reading, ◌>>=◌}
use Rattle.tomex_values.specs.Table.{known_keys}
use Rattle.tomex_values.specs.Numbers.{between, number_at}

-- the price at a key, 0 to 1,000,000
abbrev pub price_at : Key → Members → Reading ℕ
price_at key members = number_at place.Prices key (between 0 1000000) 0 members

-- the place of the prices
unfoldable pub prices_of : Members → Reading PriceList
prices_of members = do
  _ ← known_keys place.Prices
      (key.Alu ∷ key.Mul ∷ key.Div ∷ key.Load ∷ key.Store ∷ key.Bru ∷ key.Bus ∷ key.Width ∷ []) members
  alu ← price_at key.Alu members
  mul ← price_at key.Mul members
  div ← price_at key.Div members
  load ← price_at key.Load members
  store ← price_at key.Store members
  bru ← price_at key.Bru members
  bus ← price_at key.Bus members
  width ← price_at key.Width members
  Ok (record { stations = alu ∷ mul ∷ div ∷ load ∷ store ∷ bru ∷ []; bus = bus; width = width })
