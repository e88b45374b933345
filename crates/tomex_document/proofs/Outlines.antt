-- The tables from which a document's parts were read.
use Rattle.std.proofs.Common.{◌≡◌, false, [], ◌∷◌, Ok, subst}
use Rattle.toml.specs.Data.{Items, Members}
use Rattle.tomex_config.specs.Grid.{is_too_large}
use Rattle.tomex_values.specs.declared.error.DocumentError.TheVariants.{TooMany}
use Rattle.tomex_values.specs.declared.place.Key.TheVariants as key
use Rattle.tomex_values.specs.declared.place.Place.TheVariants as place
use Rattle.tomex_values.specs.Table.{known_keys, table_at}
use Rattle.tomex_document.specs.Program.{program_tables, programs_of}
use Rattle.tomex_document.specs.Prices.{prices_of}
use Rattle.tomex_document.specs.Axes.{axes_of}
use Rattle.tomex_document.specs.Document.{Document, is_wide, outline_of}
use Rattle.tomex_values.proofs.Outcomes.{first_value, not_met}

-- its programs and its axes, and the tables that they are read from
pub record OutlineParts (top : Members) (document : Document) : Type 0 where
  pub tables : Items
  pub members : Members
  pub unit : Members
  pub tables_are : program_tables top ≡ Ok tables
  pub programs_are : programs_of 1 [] tables ≡ Ok document.programs
  pub axes_are : axes_of members unit ≡ Ok document.axes
  pub few : is_too_large document.axes ≡ false

pub outline_parts : (top : Members) (document : Document) → outline_of top ≡ Ok document → OutlineParts top document
unfolding outline_of
outline_parts top document given =
    let (known, (known_is, given_1)) =
    first_value (known_keys place.Top (key.Program ∷ key.Prices ∷ key.Axes ∷ key.Unit ∷ []) top) _ document given in
    let (tables, (tables_is, given_2)) = first_value (program_tables top) _ document given_1 in
    let (prices, (prices_is, given_3)) = first_value (table_at place.Top key.Prices top) _ document given_2 in
    let (members, (members_is, given_4)) = first_value (table_at place.Top key.Axes top) _ document given_3 in
    let (unit, (unit_is, given_5)) = first_value (table_at place.Top key.Unit top) _ document given_4 in
    let (programs, (programs_is, given_6)) = first_value (programs_of 1 [] tables) _ document given_5 in
    let (list, (list_is, given_7)) = first_value (prices_of prices) _ document given_6 in
    let (axes, (axes_is, given_8)) = first_value (axes_of members unit) _ document given_7 in
    let found : Document = record {
      programs = programs;
      prices = list;
      axes = axes;
      wide = is_wide programs prices members;
    } in
    let (few, same) = not_met (is_too_large axes) found document TooMany given_8 in
    let parts : OutlineParts top found = record {
      tables = tables;
      members = members;
      unit = unit;
      tables_are = tables_is;
      programs_are = programs_is;
      axes_are = axes_is;
      few = few;
    } in
    subst (OutlineParts top) same parts
