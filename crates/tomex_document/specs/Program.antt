-- The programs of a study, as it names them.
use Rattle.std.specs.Prelude.{◌≡◌, ◌≢◌, ◌≤◌, ℕ, ◌+◌, ◌-◌, min, Bool, true, ◌&&◌, ◌||◌, ◌==◌, nat_le, not}
use Rattle.std.specs.Prelude.{List, [], ◌∷◌, ◌++◌, length, Option, Some, None, Ok, Err, if◌then◌else◌}
use Rattle.std.specs.List.{list_any, list_all}
use Rattle.std.specs.Str.{bytes_eq}
use Rattle.toml.specs.Data.{Data, Items, no_items, item, Members, as_str, as_table, as_array}
use Rattle.tomex_image.specs.Window.{Span, IsWindow}
use Rattle.tomex_values.specs.declared.place.Key.{Key}
use Rattle.tomex_values.specs.declared.place.Key.TheVariants as key
use Rattle.tomex_values.specs.declared.place.Place.{Place}
use Rattle.tomex_values.specs.declared.place.Place.TheVariants as place
use Rattle.tomex_study.specs.declared.watch.WatchRange.{WatchRange}
use Rattle.tomex_values.specs.declared.error.DocumentError.TheVariants.{MissingKey, Kind, Range}
use Rattle.tomex_values.specs.Readings.{Reading, ◌>>=◌}
use Rattle.tomex_values.specs.Table.{value_at, has_key, known_keys}
use Rattle.tomex_values.specs.Numbers.{between, words_between, number_at}
use Rattle.tomex_values.specs.Lists.{items_count, tables_from}
use Rattle.tomex_study.specs.Watch.{IsWatch}
use Rattle.tomex_document.specs.Watch.{watch_at}
use Rattle.tomex_rvexec.specs.Run.{most_steps}

-- a program before its file is read
pub record ProgramEntry : Type 0 where
  pub name : List ℕ
  pub file : List ℕ
  pub window : Span
  pub limit : ℕ
  pub watch : List WatchRange
  pub weight : ℕ
  -- the study gives the weight
  pub weighed : Bool

abbrev pub entry_of : (name file : List ℕ) → Span → (limit : ℕ) → List WatchRange → (weight : ℕ) → Bool → ProgramEntry
entry_of name file window limit watch weight weighed = record {
  name = name;
  file = file;
  window = window;
  limit = limit;
  watch = watch;
  weight = weight;
  weighed = weighed;
}

-- a to z, 0 to 9, _ and -
abbrev pub is_name_byte : ℕ → Bool
is_name_byte b = (nat_le 97 b && nat_le b 122) || (nat_le 48 b && nat_le b 57) || (b == 95) || (b == 45)

-- 1 to 32 of these bytes
abbrev pub is_name : List ℕ → Bool
is_name text = nat_le 1 (length text) && nat_le (length text) 32 && list_all is_name_byte text

-- what the tests of its place guarantee of a program
pub record IsProgramEntry (entry : ProgramEntry) : Type 0 where
  pub name : is_name entry.name ≡ true
  pub file : entry.file ≢ []
  pub window : IsWindow entry.window.base entry.window.size
  pub least_limit : 1 ≤ entry.limit
  pub most_limit : entry.limit ≤ most_steps
  pub watch : IsWatch entry.window entry.watch
  pub least_weight : 1 ≤ entry.weight
  pub most_weight : entry.weight ≤ 1000

-- an earlier program has the name
abbrev pub is_taken : List ProgramEntry → List ℕ → Bool
is_taken earlier text = list_any (λ entry. bytes_eq entry.name text) earlier

-- a text, or a value of wrong kind
abbrev pub text_from : Place → Key → Option (List ℕ) → Reading (List ℕ)
text_from place key None = Err (Kind place key)
text_from place key (Some text) = Ok text

-- a value that must be present, as a text
abbrev pub text_or : Place → Key → Option Data → Reading (List ℕ)
text_or place key None = Err (MissingKey place key)
text_or place key (Some value) = text_from place key (as_str value)

-- the text at a key that every program has
unfoldable pub text_at : Place → Key → Members → Reading (List ℕ)
text_at place key members = text_or place key (value_at key members)

-- the name, which no earlier program has
unfoldable pub name_at : Place → List ProgramEntry → Members → Reading (List ℕ)
name_at place earlier members = do
  name ← text_at place key.Name members
  if is_name name && not (is_taken earlier name) then Ok name else Err (Range place key.Name)

-- the name of the file, which isn't empty
unfoldable pub file_at : Place → Members → Reading (List ℕ)
file_at place members = do
  file ← text_at place key.File members
  if length file == 0 then Err (Range place key.File) else Ok file

-- base and size together are at most 2^32
abbrev pub size_most : ℕ → ℕ
size_most base = min 1048576 (4294967296 - base)

-- the window of the image
unfoldable pub window_at : Place → Members → Reading Span
window_at place members = do
  base ← number_at place key.Base (words_between 0 4294967292) 0 members
  size ← number_at place key.Size (words_between 4 (size_most base)) 65536 members
  Ok (record { base = base; size = size })

-- a program in its place, after the earlier ones
unfoldable pub program_of : Place → List ProgramEntry → Members → Reading ProgramEntry
program_of place earlier members = do
  _ ← known_keys place (key.Name ∷ key.File ∷ key.Base ∷ key.Size ∷ key.Limit ∷ key.Watch ∷ key.Weight ∷ []) members
  name ← name_at place earlier members
  file ← file_at place members
  window ← window_at place members
  limit ← number_at place key.Limit (between 1 most_steps) most_steps members
  watch ← watch_at place window members
  weight ← number_at place key.Weight (between 1 1000) 1 members
  Ok (record {
    name = name;
    file = file;
    window = window;
    limit = limit;
    watch = watch;
    weight = weight;
    weighed = has_key key.Weight members;
  })

-- a program, or a value that is no table
abbrev pub program_from : ℕ → List ProgramEntry → Option Members → Reading ProgramEntry
program_from number earlier None = Err (Kind place.Top key.Program)
program_from number earlier (Some members) = program_of (place.Program number) earlier members

-- the programs of these tables, from that number on and after the earlier ones
abbrev pub programs_of : ℕ → List ProgramEntry → Items → Reading (List ProgramEntry)
programs_of number earlier no_items = Ok earlier
programs_of number earlier (item value values) =
    program_from number earlier (as_table value)
    >>= (λ program. programs_of (number + 1) (earlier ++ program ∷ []) values)

-- at most 8 of them
abbrev pub few_programs : Items → Reading Items
few_programs tables = if nat_le (items_count tables) 8 then Ok tables else Err (Range place.Top key.Program)

-- an array that must be present
abbrev pub program_tables_or : Option Data → Reading Items
program_tables_or None = Err (MissingKey place.Top key.Program)
program_tables_or (Some value) = tables_from place.Top key.Program (as_array value) >>= few_programs

-- the tables of the programs: 1 to 8
unfoldable pub program_tables : Members → Reading Items
program_tables members = program_tables_or (value_at key.Program members)
