-- Integers of the document, and their limits.
use Rattle.std.specs.Prelude.{ℕ, pos, negsuc, ◌%◌, Bool, ◌&&◌, ◌==◌, nat_le, Option, Some, None, Ok, Err, if◌then◌else◌}
use Rattle.toml.specs.Data.{Data, integer, Members}
use Rattle.tomex_values.specs.declared.place.Key.{Key}
use Rattle.tomex_values.specs.declared.place.Place.{Place}
use Rattle.tomex_values.specs.declared.numbers.Limits.{Limits}
use Rattle.tomex_values.specs.declared.error.DocumentError.TheVariants.{Kind, Range}
use Rattle.tomex_values.specs.Readings.{Reading}
use Rattle.tomex_values.specs.Table.{value_at}

-- from low to high
abbrev pub between : ℕ → ℕ → Limits
between low high = record { low = low; high = high; step = 1 }

-- the multiples of 4 from low to high
abbrev pub words_between : ℕ → ℕ → Limits
words_between low high = record { low = low; high = high; step = 4 }

-- the number is one of these
abbrev pub is_within : Limits → ℕ → Bool
is_within limits n = nat_le limits.low n && nat_le n limits.high && n % limits.step == 0

-- a number, after a test of its limits
abbrev pub number_from : Place → Key → Limits → ℕ → Reading ℕ
number_from place key limits n = if is_within limits n then Ok n else Err (Range place key)

-- an integer within the limits
abbrev pub number_of : Place → Key → Limits → Data → Reading ℕ
number_of place key limits (integer (pos n)) = number_from place key limits n
number_of place key limits (integer (negsuc n)) = Err (Range place key)
number_of place key limits _ = Err (Kind place key)

-- a default is tested as if it were given
abbrev pub number_or : Place → Key → Limits → ℕ → Option Data → Reading ℕ
number_or place key limits default None = number_from place key limits default
number_or place key limits default (Some value) = number_of place key limits value

-- the integer at a key
unfoldable pub number_at : Place → Key → Limits → ℕ → Members → Reading ℕ
number_at place key limits default members = number_or place key limits default (value_at key members)
