-- Arrays of the document: of integers, and of tables.
use Rattle.std.specs.Prelude.{ℕ, suc, Bool, true, ◌&&◌, ◌==◌, List, [], ◌∷◌, Option}
use Rattle.std.specs.Prelude.{Some, None, Ok, Err, is_some, if◌then◌else◌}
use Rattle.toml.specs.Data.{Data, Items, no_items, item, Members, as_integer, as_array, as_table}
use Rattle.tomex_values.specs.declared.place.Key.{Key}
use Rattle.tomex_values.specs.declared.place.Place.{Place}
use Rattle.tomex_values.specs.declared.error.DocumentError.TheVariants.{Kind, Range}
use Rattle.tomex_values.specs.Readings.{Reading, ◌>>=◌}
use Rattle.tomex_values.specs.Table.{value_at}
use Rattle.tomex_values.specs.Numbers.{between, number_of}

-- the number of values
abbrev pub items_count : Items → ℕ
items_count no_items = 0
items_count (item value values) = suc (items_count values)

-- each of the values passes the test
abbrev pub all_items : (Data → Bool) → Items → Bool
all_items test no_items = true
all_items test (item value values) = test value && all_items test values

-- the value is an integer
abbrev pub is_integer : Data → Bool
is_integer value = is_some (as_integer value)

-- the value is a table
abbrev pub is_table : Data → Bool
is_table value = is_some (as_table value)

-- the values that a reading gives, one for each item, or the first fault
abbrev pub each : {X : Type 0} → (Data → Reading X) → Items → Reading (List X)
each read no_items = Ok []
each read (item value values) = read value >>= (λ x. each read values >>= (λ xs. Ok (x ∷ xs)))

-- at least one count, each from 1 to most
abbrev pub some_counts : Place → Key → ℕ → Items → Reading (List ℕ)
some_counts place key most no_items = Err (Range place key)
some_counts place key most values = each (number_of place key (between 1 most)) values

-- the kind of the whole array comes before the range of its values
abbrev pub counts_from : Place → Key → ℕ → Option Items → Reading (List ℕ)
counts_from place key most None = Err (Kind place key)
counts_from place key most (Some values) =
    if all_items is_integer values then some_counts place key most values else Err (Kind place key)

-- a single count of 1 if no array is given
abbrev pub counts_or : Place → Key → ℕ → Option Data → Reading (List ℕ)
counts_or place key most None = Ok (1 ∷ [])
counts_or place key most (Some value) = counts_from place key most (as_array value)

-- the numbers of stations or buses, or the widths, at a key, from 1 to most; a single 1 if the key is absent
unfoldable pub counts_at : Place → Key → ℕ → Members → Reading (List ℕ)
counts_at place key most members = counts_or place key most (value_at key members)

-- only tables, and at least one
abbrev pub tables_from : Place → Key → Option Items → Reading Items
tables_from place key None = Err (Kind place key)
tables_from place key (Some values) =
    if all_items is_table values then (if items_count values == 0 then Err (Range place key) else Ok values)
    else Err (Kind place key)

-- an array that may be absent
abbrev pub tables_or : Place → Key → Option Data → Reading (Option Items)
tables_or place key None = Ok None
tables_or place key (Some value) = tables_from place key (as_array value) >>= (λ tables. Ok (Some tables))

-- the array of tables at a key, if the key is present
unfoldable pub tables_at : Place → Key → Members → Reading (Option Items)
tables_at place key members = tables_or place key (value_at key members)
