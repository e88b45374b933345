-- The number of relevant prices, option by option and in all.
use Rattle.std.proofs.Common.{◌≡◌, ◌∙◌, ◌+◌, ◌<◌, ◌≤◌, ℕ, ap, arith, sym, Bool, true, false, List, [], ◌∷◌, ◌++◌}
use Rattle.std.proofs.Common.{drop, get_or, length, length-append, map, take}
use Rattle.std.specs.List.{filter, flat_map}
use Rattle.std.proofs.lemmas.List.{drop_all}
use Rattle.std.proofs.lemmas.List.Elements.{filter-append}
use Rattle.tomex_rvdec.specs.declared.pool.UnitId.{UnitId}
use Rattle.tomex_config.specs.Configuration.{Configuration, option_of}
use Rattle.tomex_config.specs.Cost.{all_pools, all_units}
use Rattle.tomex_config.specs.declared.config.UnitOption.{UnitOption}
use Rattle.tomex_study.specs.Study.{DesignSpace}
use Rattle.tomex_prices.specs.declared.price.Price.{Price}
use Rattle.tomex_prices.specs.declared.price.Price.TheVariants.{Station, Choice, Bus, Width}
use Rattle.tomex_prices.specs.Prices.{choices_of, is_relevant, prices_of, relevant_prices_of}
use Rattle.tomex_prices.proofs.FirstOptions.{all_options, has, new_options, seen, unseen}

-- the number that pass
abbrev pub passing : (Price → Bool) → UnitId → List UnitOption → ℕ
passing p unit options = length (filter p (map (Choice unit) options))

pub counted_at_first : (p : Price → Bool) (unit : UnitId) (rows : List Configuration)
    → 0 + passing p unit (new_options unit [] rows) ≡ length (filter p (choices_of rows unit))
unfolding choices_of
counted_at_first p unit rows =
    let e = ap (λ (os : List UnitOption). passing p unit os) (all_options unit rows) in
    omega (arith, e)

module _ (p : Price → Bool) (unit : UnitId) (rows : List Configuration) (k : ℕ) (c : Configuration) (o : UnitOption)
    (found : Bool) (n whole : ℕ) (within : k < length rows) (is : c ≡ get_or rows k c) (chosen : o ≡ option_of c unit)
    (found_is : found ≡ has (take k rows) unit o)
    (so_far : n + passing p unit (new_options unit (take k rows) (drop k rows)) ≡ whole) where
  pub counted_seen : found ≡ true
      → n + passing p unit (new_options unit (take (k + 1) rows) (drop (k + 1) rows)) ≡ whole
  counted_seen old =
      let here : has (take k rows) unit (option_of c unit) ≡ true = rw chosen at (sym found_is ∙ old) in
      ap (λ (os : List UnitOption). n + passing p unit os) (sym (seen unit rows k c within is here)) ∙ so_far

  next : found ≡ false
      → n + passing p unit (o ∷ new_options unit (take (k + 1) rows) (drop (k + 1) rows)) ≡ whole
  next fresh =
      let here : has (take k rows) unit (option_of c unit) ≡ false = rw chosen at (sym found_is ∙ fresh) in
      ap (λ (x : UnitOption). n + passing p unit (x ∷ new_options unit (take (k + 1) rows) (drop (k + 1) rows))) chosen
      ∙ (ap (λ (os : List UnitOption). n + passing p unit os) (sym (unseen unit rows k c within is here)) ∙ so_far)

  pub counted_new : found ≡ false → p (Choice unit o) ≡ true
      → n + 1 + passing p unit (new_options unit (take (k + 1) rows) (drop (k + 1) rows)) ≡ whole
  counted_new fresh passes = let e = rw passes at (next fresh) in omega (arith, e)

  pub counted_left : found ≡ false → p (Choice unit o) ≡ false
      → n + passing p unit (new_options unit (take (k + 1) rows) (drop (k + 1) rows)) ≡ whole
  counted_left fresh fails = rw fails at (next fresh)

pub counted_at_last : (p : Price → Bool) (unit : UnitId) (rows : List Configuration) (k n whole : ℕ) → length rows ≤ k
    → n + passing p unit (new_options unit (take k rows) (drop k rows)) ≡ whole → n ≡ whole
counted_at_last p unit rows k n whole over so_far =
    let e : n + passing p unit [] ≡ whole =
    ap (λ (cs : List Configuration). n + passing p unit (new_options unit (take k rows) cs))
    (sym (drop_all k rows over)) ∙ so_far in
    omega (arith, e)

-- all prices of a study
pub counted_all : (s : DesignSpace) {rows : List Configuration} {stations options bus width : ℕ} → rows ≡ s.rows
    → stations ≡ length (filter (is_relevant rows) (map Station all_pools))
    → options ≡ length (filter (is_relevant rows) (flat_map (choices_of rows) all_units))
    → bus ≡ length (filter (is_relevant rows) (Bus ∷ [])) → width ≡ length (filter (is_relevant rows) (Width ∷ []))
    → stations + options + bus + width ≡ length (relevant_prices_of s)
unfolding prices_of relevant_prices_of
counted_all s all a b c d =
    let p = is_relevant s.rows in
    let first = map Station all_pools in
    let second = flat_map (choices_of s.rows) all_units in
    let e = ap length (filter-append p first (second ++ Bus ∷ Width ∷ []))
    ∙ length-append (filter p first) (filter p (second ++ Bus ∷ Width ∷ [])) in
    let f = ap length (filter-append p second (Bus ∷ Width ∷ []))
    ∙ length-append (filter p second) (filter p (Bus ∷ Width ∷ [])) in
    let g = ap length (filter-append p (Bus ∷ []) (Width ∷ []))
    ∙ length-append (filter p (Bus ∷ [])) (filter p (Width ∷ [])) in
    let a' = rw all at a in
    let b' = rw all at b in
    let c' = rw all at c in
    let d' = rw all at d in
    omega (arith, e, f, g, a', b', c', d')
