-- The numbers and lists that are read are within their limits.
use Rattle.std.proofs.Common.{◌≡◌, ℕ, ◌%◌, ◌&&◌, ◌==◌, suc, nat_le, Bool, true, false, List, [], ◌∷◌, length, Option}
use Rattle.std.proofs.Common.{Some, None, Ok, pos, negsuc, refl, arith, inl, inr, subst}
use Rattle.std.proofs.lemmas.Bool.{cases_Bool, eqb-true}
use Rattle.std.specs.List.{list_all}
use Rattle.toml.specs.Data.{Data, string, integer, float, boolean, datetime, array, table, Items, no_items, item}
use Rattle.toml.specs.Data.{Members, as_array}
use Rattle.tomex_config.specs.Configuration.{is_between}
use Rattle.tomex_values.specs.declared.numbers.Limits.{Limits}
use Rattle.tomex_values.specs.declared.error.DocumentError.TheVariants.{Kind, Range}
use Rattle.tomex_values.specs.declared.place.Key.{Key}
use Rattle.tomex_values.specs.declared.place.Place.{Place}
use Rattle.tomex_values.specs.Readings.{Reading, ◌>>=◌}
use Rattle.tomex_values.specs.Numbers.{between, is_within, number_from, number_of, number_or, number_at}
use Rattle.tomex_values.specs.Lists.{all_items, is_integer, each, some_counts, counts_from, counts_or, counts_at}
use Rattle.tomex_values.specs.Table.{value_at}
use Rattle.tomex_values.proofs.Outcomes.{fault_is_no_value, same_value, first_value, passed}

number_from_within : (place : Place) (key : Key) (limits : Limits) (n m : ℕ) → number_from place key limits n ≡ Ok m
    → is_within limits m ≡ true
number_from_within place key limits n m given =
    let (test, same) = passed (is_within limits n) n m (Range place key) given in
    subst (λ (k : ℕ). is_within limits k ≡ true) same test

pub number_of_within : (place : Place) (key : Key) (limits : Limits) (value : Data) (m : ℕ)
    → number_of place key limits value ≡ Ok m → is_within limits m ≡ true
number_of_within place key limits (integer (pos n)) m given = number_from_within place key limits n m given
number_of_within place key limits (integer (negsuc n)) m given = absurd (fault_is_no_value (Range place key) m given)
number_of_within place key limits (string s) m given = absurd (fault_is_no_value (Kind place key) m given)
number_of_within place key limits (float x) m given = absurd (fault_is_no_value (Kind place key) m given)
number_of_within place key limits (boolean b) m given = absurd (fault_is_no_value (Kind place key) m given)
number_of_within place key limits (datetime d) m given = absurd (fault_is_no_value (Kind place key) m given)
number_of_within place key limits (array values) m given = absurd (fault_is_no_value (Kind place key) m given)
number_of_within place key limits (table inside) m given = absurd (fault_is_no_value (Kind place key) m given)

number_or_within : (place : Place) (key : Key) (limits : Limits) (default : ℕ) (value : Option Data) (m : ℕ)
    → number_or place key limits default value ≡ Ok m → is_within limits m ≡ true
number_or_within place key limits default None m given = number_from_within place key limits default m given
number_or_within place key limits default (Some value) m given = number_of_within place key limits value m given

-- the integer at a key
pub number_at_within : (place : Place) (key : Key) (limits : Limits) (default : ℕ) (members : Members) (m : ℕ)
    → number_at place key limits default members ≡ Ok m → is_within limits m ≡ true
unfolding number_at
number_at_within place key limits default members m given =
    number_or_within place key limits default (value_at key members) m given

front : (a b c : Bool) → (a && b && c) ≡ true → (a && b) ≡ true
front true true c given = refl
front true false c given = given
front false b c given = given

-- limits with a step of 1 are those of the definitions of rows
pub is_between_from : (low high n : ℕ) → is_within (between low high) n ≡ true → is_between low high n ≡ true
is_between_from low high n given = front (nat_le low n) (nat_le n high) (n % 1 == 0) given

-- a list that an axis may have
pub record IsAxis {X : Type 0} (test : X → Bool) (values : List X) : Type 0 where
  pub some : (length values == 0) ≡ false
  pub within : list_all test values ≡ true

pub not_zero : (n : ℕ) → (suc n == 0) ≡ false
not_zero n = elim (cases_Bool (suc n == 0)) [
  | inl none ↦ (let zero_is : suc n ≡ 0 = eqb-true (suc n) 0 none in absurd (omega (arith, zero_is)))
  | inr some ↦ some
]

-- each of the values that a reading gives passes the test
pub each_passes : {X : Type 0} (read : Data → Reading X) (test : X → Bool)
    → ((value : Data) (x : X) → read value ≡ Ok x → test x ≡ true)
    → (values : Items) (xs : List X) → each read values ≡ Ok xs → list_all test xs ≡ true
each_passes {X} read test passes no_items xs given =
    subst (λ (ys : List X). list_all test ys ≡ true) (same_value [] xs (Ok []) refl given) refl
each_passes {X} read test passes (item value values) xs given =
    let (x, (x_is, given_2)) = first_value (read value) (λ x. each read values >>= (λ xs. Ok (x ∷ xs))) xs given in
    let (rest, (rest_is, given_3)) = first_value (each read values) (λ xs. Ok (x ∷ xs)) xs given_2 in
    let whole : list_all test (x ∷ rest) ≡ true =
    rw (passes value x x_is) (each_passes read test passes values rest rest_is) in
    subst (λ (ys : List X). list_all test ys ≡ true) (same_value (x ∷ rest) xs (Ok (x ∷ rest)) refl given_3) whole

some_counts_are : (place : Place) (key : Key) (most : ℕ) (values : Items) (ns : List ℕ)
    → some_counts place key most values ≡ Ok ns → IsAxis (is_between 1 most) ns
some_counts_are place key most no_items ns given = absurd (fault_is_no_value (Range place key) ns given)
some_counts_are place key most (item value values) ns given =
    let read : Data → Reading ℕ = number_of place key (between 1 most) in
    let (x, (x_is, given_2)) = first_value (number_of place key (between 1 most) value)
    (λ x. each (number_of place key (between 1 most)) values >>= (λ xs. Ok (x ∷ xs))) ns given in
    let (rest, (rest_is, given_3)) =
    first_value (each (number_of place key (between 1 most)) values) (λ xs. Ok (x ∷ xs)) ns given_2 in
    record {
      some = subst (λ (ys : List ℕ). (length ys == 0) ≡ false) (same_value (x ∷ rest) ns (Ok (x ∷ rest)) refl given_3)
          (not_zero (length rest));
      within = each_passes (number_of place key (between 1 most)) (is_between 1 most)
          (λ v n is. is_between_from 1 most n (number_of_within place key (between 1 most) v n is)) (item value values)
          ns given;
    }

counts_from_are : (place : Place) (key : Key) (most : ℕ) (values : Option Items) (ns : List ℕ)
    → counts_from place key most values ≡ Ok ns → IsAxis (is_between 1 most) ns
counts_from_are place key most None ns given = absurd (fault_is_no_value (Kind place key) ns given)
counts_from_are place key most (Some values) ns given = elim (cases_Bool (all_items is_integer values)) [
  | inl integers ↦ some_counts_are place key most values ns (rw integers at given)
  | inr others ↦ absurd (fault_is_no_value (Kind place key) ns (rw others at given))
]

counts_or_are : (place : Place) (key : Key) (most : ℕ) (value : Option Data) (ns : List ℕ) → is_between 1 most 1 ≡ true
    → counts_or place key most value ≡ Ok ns → IsAxis (is_between 1 most) ns
counts_or_are place key most None ns one given =
    let single : IsAxis (is_between 1 most) (1 ∷ []) = record { some = refl; within = rw one refl } in
    subst (λ (ys : List ℕ). IsAxis (is_between 1 most) ys) (same_value (1 ∷ []) ns (Ok (1 ∷ [])) refl given) single
counts_or_are place key most (Some value) ns one given = counts_from_are place key most (as_array value) ns given

-- the counts at a key
pub counts_at_are : (place : Place) (key : Key) (most : ℕ) (members : Members) (ns : List ℕ)
    → is_between 1 most 1 ≡ true
    → counts_at place key most members ≡ Ok ns → IsAxis (is_between 1 most) ns
unfolding counts_at
counts_at_are place key most members ns one given = counts_or_are place key most (value_at key members) ns one given
