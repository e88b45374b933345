-- The options that no row before has, row by row.
use Rattle.std.proofs.Common.{◌≡◌, ◌∙◌, ap, refl, sym, ℕ, ◌+◌, ◌<◌, ◌≤◌, Bool, true, false, cond, not}
use Rattle.std.proofs.Common.{List, [], ◌∷◌, ◌++◌, append_assoc, drop, get_or, length, map, take}
use Rattle.std.specs.List.{filter, list_any}
use Rattle.std.proofs.lemmas.List.{append-nil, drop_all}
use Rattle.tomex_rvdec.specs.declared.pool.UnitId.{UnitId}
use Rattle.tomex_config.specs.Configuration.{Configuration, option_of}
use Rattle.tomex_config.specs.declared.config.UnitOption.{UnitOption}
use Rattle.tomex_prices.proofs.Firsts.{filter_every, next_first}
use Rattle.tomex_prices.specs.declared.price.Price.{Price}
use Rattle.tomex_prices.specs.declared.price.Price.TheVariants.{Choice}
use Rattle.tomex_config.specs.Configuration.{same_option}
use Rattle.tomex_prices.specs.Prices.{choices_of, options_of}

-- one of these rows has the option
abbrev pub has : List Configuration → UnitId → UnitOption → Bool
has rows unit o = list_any (λ config. same_option (option_of config unit) o) rows

-- the options of the remaining rows that none of those before has
abbrev pub new_options : UnitId → List Configuration → List Configuration → List UnitOption
new_options unit before rest = filter (λ o. not (has before unit o)) (options_of unit rest)

pub all_options : (unit : UnitId) (rows : List Configuration) → new_options unit [] rows ≡ options_of unit rows
all_options unit rows = filter_every (options_of unit rows)

-- a row's option is new, or a row before has it
module _ (unit : UnitId) (rows : List Configuration) (k : ℕ) (c : Configuration) (within : k < length rows)
    (is : c ≡ get_or rows k c) where
  next_row : new_options unit (take k rows) (drop k rows)
      ≡ cond (has (take k rows) unit (option_of c unit)) (new_options unit (take (k + 1) rows) (drop (k + 1) rows))
      (option_of c unit ∷ new_options unit (take (k + 1) rows) (drop (k + 1) rows))
  next_row =
      next_first same_option (λ config. option_of config unit) (options_of unit) (λ x xs. refl) rows k c within is

  pub seen : has (take k rows) unit (option_of c unit) ≡ true
      → new_options unit (take k rows) (drop k rows) ≡ new_options unit (take (k + 1) rows) (drop (k + 1) rows)
  seen old = next_row ∙ rw old refl

  pub unseen : has (take k rows) unit (option_of c unit) ≡ false
      → new_options unit (take k rows) (drop k rows)
      ≡ option_of c unit ∷ new_options unit (take (k + 1) rows) (drop (k + 1) rows)
  unseen fresh = next_row ∙ rw fresh refl

-- their prices: those so far, and those of options that only remaining rows have

pub choices_at_first : (prices : List Price) (unit : UnitId) (rows : List Configuration)
    → prices ++ map (Choice unit) (new_options unit [] rows) ≡ prices ++ choices_of rows unit
unfolding choices_of
choices_at_first prices unit rows =
    ap (λ (os : List UnitOption). prices ++ map (Choice unit) os) (all_options unit rows)

module _ (unit : UnitId) (rows : List Configuration) (k : ℕ) (c : Configuration) (o : UnitOption) (found : Bool)
    (before whole : List Price) (within : k < length rows) (is : c ≡ get_or rows k c) (chosen : o ≡ option_of c unit)
    (found_is : found ≡ has (take k rows) unit o)
    (so_far : before ++ map (Choice unit) (new_options unit (take k rows) (drop k rows)) ≡ whole) where
  pub choices_seen : found ≡ true
      → before ++ map (Choice unit) (new_options unit (take (k + 1) rows) (drop (k + 1) rows)) ≡ whole
  choices_seen old =
      let here : has (take k rows) unit (option_of c unit) ≡ true = rw chosen at (sym found_is ∙ old) in
      ap (λ (os : List UnitOption). before ++ map (Choice unit) os) (sym (seen unit rows k c within is here)) ∙ so_far

  pub choices_new : found ≡ false → (after : List Price) → after ≡ before ++ Choice unit o ∷ []
      → after ++ map (Choice unit) (new_options unit (take (k + 1) rows) (drop (k + 1) rows)) ≡ whole
  choices_new fresh after grown =
      let here : has (take k rows) unit (option_of c unit) ≡ false = rw chosen at (sym found_is ∙ fresh) in
      let rest = map (Choice unit) (new_options unit (take (k + 1) rows) (drop (k + 1) rows)) in
      ap (λ (ps : List Price). ps ++ rest) grown
      ∙ (append_assoc before (Choice unit o ∷ []) rest
      ∙ (ap (λ (p : UnitOption). before ++ (Choice unit p ∷ rest)) chosen
      ∙ (ap (λ (os : List UnitOption). before ++ map (Choice unit) os) (sym (unseen unit rows k c within is here))
      ∙ so_far)))

pub choices_at_last : (unit : UnitId) (rows : List Configuration) (k : ℕ) (before whole : List Price) → length rows ≤ k
    → before ++ map (Choice unit) (new_options unit (take k rows) (drop k rows)) ≡ whole → before ≡ whole
choices_at_last unit rows k before whole over so_far =
    sym (append-nil before)
    ∙ (ap (λ (cs : List Configuration). before ++ map (Choice unit) (new_options unit (take k rows) cs))
    (sym (drop_all k rows over)) ∙ so_far)
