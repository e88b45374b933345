-- The document of a study, read from its bytes, or the first test that they fail.
use Rattle.std.specs.Prelude.{ℕ, Bool, ◌||◌, List, [], ◌∷◌, map, Option, Some, None, Ok, Err, if◌then◌else◌}
use Rattle.std.specs.List.{list_any}
use Rattle.std.specs.Str.{is_utf8}
use Rattle.toml.specs.Data.{Items, Members}
use Rattle.toml.specs.Parse.{parse_document}
use Rattle.tomex_config.specs.Cost.{PriceList}
use Rattle.tomex_config.specs.Grid.{Lists, is_too_large}
use Rattle.tomex_values.specs.declared.place.Key.TheVariants as key
use Rattle.tomex_values.specs.declared.place.Place.TheVariants as place
use Rattle.tomex_values.specs.declared.error.DocumentError.TheVariants.{Syntax, TooMany}
use Rattle.tomex_values.specs.Readings.{Reading, ◌>>=◌}
use Rattle.tomex_values.specs.Table.{has_key, known_keys, table_at}
use Rattle.tomex_document.specs.Program.{ProgramEntry, program_tables, programs_of}
use Rattle.tomex_document.specs.Prices.{prices_of}
use Rattle.tomex_document.specs.Axes.{axes_of}

-- a study before its programs' files are read
pub record Document : Type 0 where
  pub programs : List ProgramEntry
  pub prices : PriceList
  pub axes : Lists
  -- reports show widths and weights
  pub wide : Bool

-- the members of the top, or bytes that TOML refuses
abbrev pub members_or : Option Members → Reading Members
members_or None = Err Syntax
members_or (Some members) = Ok members

-- the document that TOML gives for the bytes
unfoldable pub members_of : List ℕ → Reading Members
members_of bytes = if is_utf8 bytes then members_or (parse_document bytes) else Err Syntax

-- the document gives the weight of a program, the price of the width or an axis of widths
abbrev pub is_wide : List ProgramEntry → Members → Members → Bool
is_wide programs prices axes =
    list_any (λ entry. entry.weighed) programs || (has_key key.Width prices || has_key key.Width axes)

-- place by place: the programs, the prices, the axes, and the test that these don't span too many configurations
abbrev pub outline_from : Items → Members → Members → Members → Reading Document
outline_from tables price_table axis_table unit = do
  programs ← programs_of 1 [] tables
  prices ← prices_of price_table
  axes ← axes_of axis_table unit
  if is_too_large axes
      then Err TooMany
      else Ok (record {
        programs = programs;
        prices = prices;
        axes = axes;
        wide = is_wide programs price_table axis_table;
      })

-- the keys at the top, and then place by place
unfoldable pub outline_of : Members → Reading Document
outline_of top = do
  _ ← known_keys place.Top (key.Program ∷ key.Prices ∷ key.Axes ∷ key.Unit ∷ []) top
  tables ← program_tables top
  price_table ← table_at place.Top key.Prices top
  axis_table ← table_at place.Top key.Axes top
  unit ← table_at place.Top key.Unit top
  outline_from tables price_table axis_table unit

-- the document of these bytes
unfoldable pub document_of : List ℕ → Reading Document
document_of bytes = members_of bytes >>= outline_of

-- the file of each program
abbrev pub files_of : List ProgramEntry → List (List ℕ)
files_of programs = map (λ program. program.file) programs

-- the programs' files, in order
unfoldable pub file_names_of : List ℕ → Reading (List (List ℕ))
file_names_of bytes = document_of bytes >>= (λ document. Ok (files_of document.programs))
