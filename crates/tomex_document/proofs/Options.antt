-- The options that are read are within the limits of their kind, and each kind has one.
use Rattle.std.proofs.Common.{◌≡◌, ℕ, ◌+◌, ◌&&◌, ◌==◌, nat_le, Bool, true, false, List, [], ◌∷◌, length, Option, Some}
use Rattle.std.proofs.Common.{None, Ok, refl, inl, inr, subst}
use Rattle.std.proofs.lemmas.Bool.{cases_Bool, and_parts}
use Rattle.std.specs.List.{list_all}
use Rattle.toml.specs.Data.{Data, Items, no_items, item, Members, as_array, as_table}
use Rattle.tomex_rvdec.specs.declared.pool.UnitId.{UnitId}
use Rattle.tomex_rvdec.specs.declared.pool.UnitId.TheVariants as units
use Rattle.tomex_config.specs.Configuration.{is_between, is_option, most_units, plain_option}
use Rattle.tomex_config.specs.declared.config.UnitOption.{UnitOption}
use Rattle.tomex_values.specs.declared.error.DocumentError.TheVariants.{Kind, Range}
use Rattle.tomex_values.specs.declared.place.Key.{Key}
use Rattle.tomex_values.specs.declared.place.Key.TheVariants as key
use Rattle.tomex_values.specs.declared.place.Place.{Place}
use Rattle.tomex_values.specs.declared.place.Place.TheVariants as place
use Rattle.tomex_values.specs.Place.{key_of_unit}
use Rattle.tomex_values.specs.Table.{value_at, known_keys}
use Rattle.tomex_values.specs.Numbers.{between, number_at}
use Rattle.tomex_values.specs.Lists.{items_count, all_items, is_table, tables_from, tables_or, tables_at}
use Rattle.tomex_document.specs.Units.{option_of, option_from, options_from, options_of}
use Rattle.tomex_values.proofs.Outcomes.{fault_is_no_value, same_value, first_value, not_met}
use Rattle.tomex_values.proofs.Within.{number_at_within, is_between_from, IsAxis, not_zero}

all_three : (a b c : Bool) → a ≡ true → b ≡ true → c ≡ true → (a && b && c) ≡ true
all_three a b c first second third = rw (first, second, third) refl

pub option_of_is : (place : Place) (most : ℕ) (members : Members) (option : UnitOption)
    → option_of place most members ≡ Ok option → is_option most option ≡ true
unfolding option_of
option_of_is place most members option given =
    let (known, (known_is, given_1)) =
    first_value (known_keys place (key.Units ∷ key.Latency ∷ key.Price ∷ []) members) _ option given in
    let (units, (units_is, given_2)) =
    first_value (number_at place key.Units (between 1 most) 1 members) _ option given_1 in
    let (latency, (latency_is, given_3)) =
    first_value (number_at place key.Latency (between 1 64) 1 members) _ option given_2 in
    let (price, (price_is, given_4)) =
    first_value (number_at place key.Price (between 0 1000000) 0 members) _ option given_3 in
    let found : UnitOption = record { units = units; latency = latency; price = price } in
    let lawful : is_option most found ≡ true =
    all_three (is_between 1 most units) (is_between 1 64 latency) (nat_le price 1000000)
    (is_between_from 1 most units (number_at_within place key.Units (between 1 most) 1 members units units_is))
    (is_between_from 1 64 latency (number_at_within place key.Latency (between 1 64) 1 members latency latency_is))
    (and_parts (nat_le 0 price) (nat_le price 1000000)
    (is_between_from 0 1000000 price
    (number_at_within place key.Price (between 0 1000000) 0 members price price_is))).1 in
    subst (λ (o : UnitOption). is_option most o ≡ true) (same_value found option (Ok found) refl given_4) lawful

option_from_is : (unit : UnitId) (number : ℕ) (members : Option Members) (option : UnitOption)
    → option_from unit number members ≡ Ok option → is_option (most_units unit) option ≡ true
option_from_is unit number None option given =
    absurd (fault_is_no_value (Kind place.Unit (key_of_unit unit)) option given)
option_from_is unit number (Some members) option given =
    option_of_is (place.Option unit number) (most_units unit) members option given

options_from_are : (unit : UnitId) (number : ℕ) (values : Items) (options : List UnitOption)
    → options_from unit number values ≡ Ok options → list_all (is_option (most_units unit)) options ≡ true
options_from_are unit number no_items options given =
    subst (λ (os : List UnitOption). list_all (is_option (most_units unit)) os ≡ true)
    (same_value [] options (Ok []) refl given) refl
options_from_are unit number (item value values) options given =
    let (option, (option_is, given_1)) = first_value (option_from unit number (as_table value)) _ options given in
    let (rest, (rest_is, given_2)) = first_value (options_from unit (number + 1) values) _ options given_1 in
    let whole : list_all (is_option (most_units unit)) (option ∷ rest) ≡ true =
    rw (option_from_is unit number (as_table value) option option_is)
    (options_from_are unit (number + 1) values rest rest_is) in
    subst (λ (os : List UnitOption). list_all (is_option (most_units unit)) os ≡ true)
    (same_value (option ∷ rest) options (Ok (option ∷ rest)) refl given_2) whole

some_options : (unit : UnitId) (number : ℕ) (values : Items) (options : List UnitOption)
    → (items_count values == 0) ≡ false
    → options_from unit number values ≡ Ok options → (length options == 0) ≡ false
some_options unit number no_items options some given = absurd (no_count some) where
  no_count : (0 == 0) ≡ false → ⊥
  no_count none = cc
some_options unit number (item value values) options some given =
    let (option, (option_is, given_1)) = first_value (option_from unit number (as_table value)) _ options given in
    let (rest, (rest_is, given_2)) = first_value (options_from unit (number + 1) values) _ options given_1 in
    subst (λ (os : List UnitOption). (length os == 0) ≡ false)
    (same_value (option ∷ rest) options (Ok (option ∷ rest)) refl given_2) (not_zero (length rest))

-- if the tables of a kind are present, there is at least one
abbrev pub HasTables : Option Items → Type 0
HasTables None = Unit {0}
HasTables (Some values) = (items_count values == 0) ≡ false

plain_is_option : (unit : UnitId) → is_option (most_units unit) plain_option ≡ true
plain_is_option units.Alu = refl
plain_is_option units.Mul = refl
plain_is_option units.Div = refl
plain_is_option units.Mem = refl
plain_is_option units.Bru = refl

-- the options of a kind
pub options_of_are : (unit : UnitId) (tables : Option Items) (options : List UnitOption) → HasTables tables
    → options_of unit tables ≡ Ok options → IsAxis (is_option (most_units unit)) options
options_of_are unit None options some given =
    let plain : IsAxis (is_option (most_units unit)) (plain_option ∷ []) =
    record { some = refl; within = rw (plain_is_option unit) refl } in
    subst (λ (os : List UnitOption). IsAxis (is_option (most_units unit)) os)
    (same_value (plain_option ∷ []) options (Ok (plain_option ∷ [])) refl given) plain
options_of_are unit (Some values) options some given = record {
  some = some_options unit 1 values options some given;
  within = options_from_are unit 1 values options given;
}

pub tables_from_some : (place : Place) (key : Key) (values : Option Items) (tables : Items)
    → tables_from place key values ≡ Ok tables → (items_count tables == 0) ≡ false
tables_from_some place key None tables given = absurd (fault_is_no_value (Kind place key) tables given)
tables_from_some place key (Some values) tables given = elim (cases_Bool (all_items is_table values)) [
  | inl all ↦ (let (some, same) = not_met (items_count values == 0) values tables (Range place key) (rw all at given) in
      subst (λ (ts : Items). (items_count ts == 0) ≡ false) same some)
  | inr others ↦ absurd (fault_is_no_value (Kind place key) tables (rw others at given))
]

tables_or_have : (place : Place) (key : Key) (value : Option Data) (tables : Option Items)
    → tables_or place key value ≡ Ok tables → HasTables tables
tables_or_have place key None tables given =
    subst (λ (ts : Option Items). HasTables ts) (same_value None tables (Ok None) refl given) tt
tables_or_have place key (Some value) tables given =
    let (found, (found_is, given_1)) = first_value (tables_from place key (as_array value)) _ tables given in
    subst (λ (ts : Option Items). HasTables ts) (same_value (Some found) tables (Ok (Some found)) refl given_1)
    (tables_from_some place key (as_array value) found found_is)

pub tables_at_have : (place : Place) (key : Key) (members : Members) (tables : Option Items)
    → tables_at place key members ≡ Ok tables → HasTables tables
unfolding tables_at
tables_at_have place key members tables given = tables_or_have place key (value_at key members) tables given
