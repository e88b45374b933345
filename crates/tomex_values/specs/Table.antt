-- A table of the document: its members, and the test that their keys are known.
use Rattle.std.specs.Prelude.{ℕ, Bool, false, not, ◌||◌, List, Option, Some, None, Ok, Err, if◌then◌else◌, is_some}
use Rattle.std.specs.List.{list_any}
use Rattle.std.specs.Str.{bytes_eq}
use Rattle.toml.specs.Data.{Data, Members, no_members, member, get_member, as_table}
use Rattle.tomex_values.specs.declared.place.Key.{Key}
use Rattle.tomex_values.specs.declared.place.Place.{Place}
use Rattle.tomex_values.specs.declared.error.DocumentError.TheVariants.{UnknownKey, Kind}
use Rattle.tomex_values.specs.Place.{key_text}
use Rattle.tomex_values.specs.Readings.{Reading}

-- the value at a key
abbrev pub value_at : Key → Members → Option Data
value_at key members = get_member (key_text key) members

-- there is a value at the key
abbrev pub has_key : Key → Members → Bool
has_key key members = is_some (value_at key members)

-- the name is one of these keys
abbrev pub is_one_of : List Key → List ℕ → Bool
is_one_of keys name = list_any (λ key. bytes_eq (key_text key) name) keys

-- a member has another key than these
abbrev pub has_other_key : List Key → Members → Bool
has_other_key keys no_members = false
has_other_key keys (member name value members) = not (is_one_of keys name) || has_other_key keys members

-- the first test of a place: it has no keys but these
unfoldable pub known_keys : Place → List Key → Members → Reading (Unit {0})
known_keys place keys members = if has_other_key keys members then Err (UnknownKey place) else Ok tt

-- a table, or a value of wrong kind
abbrev pub table_from : Place → Key → Option Members → Reading Members
table_from place key None = Err (Kind place key)
table_from place key (Some members) = Ok members

-- a value that may be absent, as a table
abbrev pub table_or : Place → Key → Option Data → Reading Members
table_or place key None = Ok no_members
table_or place key (Some value) = table_from place key (as_table value)

-- the table at a key, or one without members if the key is absent
unfoldable pub table_at : Place → Key → Members → Reading Members
table_at place key members = table_or place key (value_at key members)
