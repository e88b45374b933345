-- The ranges of memory that a program's entry asks reports to show.
use Rattle.std.specs.Prelude.{◌+◌, ◌-◌, Bool, false, nat_le, List, [], length}
use Rattle.std.specs.Prelude.{Option, Some, None, Ok, Err, if◌then◌else◌}
use Rattle.toml.specs.Data.{Data, Items, no_items, item, Members, as_array}
use Rattle.tomex_image.specs.Window.{Span}
use Rattle.tomex_values.specs.declared.place.Key.TheVariants as key
use Rattle.tomex_values.specs.declared.place.Place.{Place}
use Rattle.tomex_study.specs.Watch.{watched_bytes}
use Rattle.tomex_study.specs.declared.watch.WatchRange.{WatchRange}
use Rattle.tomex_values.specs.declared.error.DocumentError.TheVariants.{Kind, Range}
use Rattle.tomex_values.specs.Readings.{Reading, ◌>>=◌}
use Rattle.tomex_values.specs.Table.{value_at}
use Rattle.tomex_values.specs.Numbers.{between, number_of}
use Rattle.tomex_values.specs.Lists.{items_count, all_items, is_integer, each}

abbrev pub is_integers_from : Option Items → Bool
is_integers_from None = false
is_integers_from (Some values) = all_items is_integer values

-- an array of only integers
abbrev pub is_integers : Data → Bool
is_integers value = is_integers_from (as_array value)

-- an address and a length inside the window
abbrev pub range_from : Place → Span → Option Items → Reading WatchRange
range_from place window (Some (item first (item second no_items))) = do
  address ← number_of place key.Watch (between window.base (window.base + (window.size - 1))) first
  length ← number_of place key.Watch (between 1 (window.size - (address - window.base))) second
  Ok (record { address = address; length = length })
range_from place window _ = Err (Range place key.Watch)

abbrev pub range_of : Place → Span → Data → Reading WatchRange
range_of place window value = range_from place window (as_array value)

-- at most 4,096 bytes
abbrev pub few_bytes : Place → List WatchRange → Reading (List WatchRange)
few_bytes place ranges = if nat_le (watched_bytes ranges) 4096 then Ok ranges else Err (Range place key.Watch)

-- at most 8 of them
abbrev pub ranges_of : Place → Span → Items → Reading (List WatchRange)
ranges_of place window values =
    if nat_le (items_count values) 8 then each (range_of place window) values >>= few_bytes place
    else Err (Range place key.Watch)

-- the kind of the whole array comes before the range of its values
abbrev pub watch_from : Place → Span → Option Items → Reading (List WatchRange)
watch_from place window None = Err (Kind place key.Watch)
watch_from place window (Some values) =
    if all_items is_integers values then ranges_of place window values else Err (Kind place key.Watch)

abbrev pub watch_or : Place → Span → Option Data → Reading (List WatchRange)
watch_or place window None = Ok []
watch_or place window (Some value) = watch_from place window (as_array value)

-- the watched ranges of a program in that window
unfoldable pub watch_at : Place → Span → Members → Reading (List WatchRange)
watch_at place window members = watch_or place window (value_at key.Watch members)
