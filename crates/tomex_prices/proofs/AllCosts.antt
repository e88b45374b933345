-- The cost of a configuration is the sum of all prices of the study, each as often as the configuration pays it.
use Rattle.std.proofs.Common.{◌≡◌, ◌∙◌, ◌+◌, ◌*◌, ◌<◌, ℕ, zero, suc, ap, arith, refl, sym}
use Rattle.std.proofs.Common.{true, false, inl, inr, not, cond, List, [], ◌∷◌, ◌++◌, get_or, length, map}
use Rattle.std.specs.Prelude.{sum_by}
use Rattle.std.specs.List.{filter, flat_map}
use Rattle.std.proofs.lemmas.Bool.{cases_Bool, eq-eqb}
use Rattle.std.proofs.lemmas.List.Sums.{sum_by-append, sum_by-cons}
use Rattle.std.proofs.Math.Nat.{mul_comm}
use Rattle.tomex_rvdec.specs.declared.pool.PoolId.TheVariants as pools
use Rattle.tomex_rvdec.specs.declared.pool.UnitId.{UnitId}
use Rattle.tomex_rvdec.specs.declared.pool.UnitId.TheVariants as units
use Rattle.tomex_config.specs.Configuration.{Configuration, option_of, plain, stations_of}
use Rattle.tomex_config.specs.Cost.{PriceList, all_pools, all_units, cost_of, options_cost, price_of, stations_cost}
use Rattle.tomex_config.specs.declared.config.UnitOption.{UnitOption}
use Rattle.tomex_study.specs.Study.{DesignSpace}
use Rattle.tomex_prices.specs.declared.price.Price.{Price}
use Rattle.tomex_prices.specs.declared.price.Price.TheVariants.{Station, Choice, Bus, Width}
use Rattle.tomex_prices.specs.Price.{payments, amount}
use Rattle.tomex_config.specs.Configuration.{same_option}
use Rattle.tomex_prices.specs.Prices.{choices_of, options_of, prices_of}
use Rattle.tomex_prices.proofs.Splitting.{same_are_one}

-- the price of this option, if it is among others: each option's price, if it is the same
abbrev one_of : UnitOption → UnitOption → ℕ
one_of x o = o.price * cond (same_option x o) 1 0

abbrev picked : UnitOption → List UnitOption → ℕ
picked x os = sum_by (one_of x) os

same_itself : (x : UnitOption) → same_option x x ≡ true
same_itself x = rw (eq-eqb x.units x.units refl, eq-eqb x.latency x.latency refl, eq-eqb x.price x.price refl) refl

-- an option equal to the first is not among those that differ from it
none_picked : (x first : UnitOption) (os : List UnitOption) → same_option x first ≡ true
    → picked x (filter (λ o. not (same_option first o)) os) ≡ 0
none_picked x first [] same = refl
none_picked x first (o ∷ os) same = elim (cases_Bool (same_option first o)) [
  | inl holds ↦ rw holds (none_picked x first os same)
  | inr fails ↦
      let is_first : same_option x o ≡ false =
      ap (λ (y : UnitOption). same_option y o) (same_are_one x first same) ∙ fails in
      let rest = filter (λ o. not (same_option first o)) os in
      let more = sum_by-cons (one_of x) o rest in
      let nothing : one_of x o ≡ 0 = rw is_first (omega arith) in
      let before = none_picked x first os same in
      rw fails (more ∙ (let z : one_of x o + picked x rest ≡ 0 = omega arith in z))
]

-- any other is among those that differ from it as often as among all
others_picked : (x first : UnitOption) (os : List UnitOption) → same_option x first ≡ false
    → picked x (filter (λ o. not (same_option first o)) os) ≡ picked x os
others_picked x first [] other = refl
others_picked x first (o ∷ os) other = elim (cases_Bool (same_option first o)) [
  | inl holds ↦
      let is_o : same_option x o ≡ false =
      ap (λ (y : UnitOption). same_option x y) (sym (same_are_one first o holds)) ∙ other in
      let nothing : one_of x o ≡ 0 = rw is_o (omega arith) in
      let more = sum_by-cons (one_of x) o os in
      let rest = others_picked x first os other in
      rw holds (let z : picked x (filter (λ o. not (same_option first o)) os) ≡ picked x (o ∷ os) = omega arith in z)
  | inr fails ↦
      let kept = filter (λ o. not (same_option first o)) os in
      let more = sum_by-cons (one_of x) o os in
      let less = sum_by-cons (one_of x) o kept in
      let rest = others_picked x first os other in
      rw fails (let z : picked x (o ∷ kept) ≡ picked x (o ∷ os) = omega arith in z)
]

-- a row's option and those that differ from it
abbrev with_others : UnitOption → List UnitOption → List UnitOption
with_others first os = first ∷ filter (λ o. not (same_option first o)) os

first_picked : (x first : UnitOption) (os : List UnitOption) → same_option x first ≡ true
    → picked x (with_others first os) ≡ x.price
first_picked x first os same =
    let rest = filter (λ o. not (same_option first o)) os in
    let more = sum_by-cons (one_of x) first rest in
    let none = none_picked x first os same in
    let price : x.price ≡ first.price = ap (λ (o : UnitOption). o.price) (same_are_one x first same) in
    let one : one_of x first ≡ first.price = rw same (omega arith) in
    more ∙ (omega (arith, none, price, one))

later_picked : (x first : UnitOption) (os : List UnitOption) → same_option x first ≡ false → picked x os ≡ x.price
    → picked x (with_others first os) ≡ x.price
later_picked x first os other later =
    let rest = filter (λ o. not (same_option first o)) os in
    let more = sum_by-cons (one_of x) first rest in
    let among = others_picked x first os other in
    let nothing : one_of x first ≡ 0 = rw other (omega arith) in
    more ∙ (omega (arith, among, nothing, later))

-- a row picks its own of the options that rows have
own_option : (unit : UnitId) (rows : List Configuration) (k : ℕ) → k < length rows
    → picked (option_of (get_or rows k plain) unit) (options_of unit rows)
    ≡ (option_of (get_or rows k plain) unit).price
own_option unit [] k low = absurd (omega arith)
own_option unit (c ∷ cs) zero low =
    first_picked (option_of c unit) (option_of c unit) (options_of unit cs) (same_itself (option_of c unit))
own_option unit (c ∷ cs) (suc k) low =
    let x = option_of (get_or cs k plain) unit in
    let later = own_option unit cs k (omega arith) in
    elim (cases_Bool (same_option x (option_of c unit))) [
      | inl same ↦ first_picked x (option_of c unit) (options_of unit cs) same
      | inr other ↦ later_picked x (option_of c unit) (options_of unit cs) other later
    ]

-- a configuration's share of a price
abbrev pub share : PriceList → Configuration → Price → ℕ
share prices config price = amount price prices * payments price config

sum_choices : (prices : PriceList) (config : Configuration) (unit : UnitId) (os : List UnitOption)
    → sum_by (share prices config) (map (Choice unit) os) ≡ picked (option_of config unit) os
sum_choices prices config unit [] = refl
sum_choices prices config unit (o ∷ os) =
    sum_by-cons (share prices config) (Choice unit o) (map (Choice unit) os)
    ∙ (ap (λ (n : ℕ). one_of (option_of config unit) o + n) (sum_choices prices config unit os)
    ∙ sym (sum_by-cons (one_of (option_of config unit)) o os))

unit_share : (prices : PriceList) (unit : UnitId) (rows : List Configuration) (k : ℕ) → k < length rows
    → sum_by (share prices (get_or rows k plain)) (choices_of rows unit)
    ≡ (option_of (get_or rows k plain) unit).price
unfolding choices_of
unit_share prices unit rows k low =
    sum_choices prices (get_or rows k plain) unit (options_of unit rows) ∙ own_option unit rows k low

-- all options together
options_share : (prices : PriceList) (rows : List Configuration) (k : ℕ) → k < length rows
    → sum_by (share prices (get_or rows k plain)) (flat_map (choices_of rows) all_units)
    ≡ options_cost (get_or rows k plain)
options_share prices rows k low =
    let f = share prices (get_or rows k plain) in
    let five = sum_by-append f (choices_of rows units.Bru) [] in
    let four = sum_by-append f (choices_of rows units.Mem) (choices_of rows units.Bru ++ []) in
    let three =
    sum_by-append f (choices_of rows units.Div) (choices_of rows units.Mem ++ (choices_of rows units.Bru ++ [])) in
    let two = sum_by-append f (choices_of rows units.Mul) (choices_of rows units.Div ++ (choices_of rows units.Mem
    ++ (choices_of rows units.Bru ++ []))) in
    let one = sum_by-append f (choices_of rows units.Alu) (choices_of rows units.Mul ++ (choices_of rows units.Div
    ++ (choices_of rows units.Mem ++ (choices_of rows units.Bru ++ [])))) in
    let a = unit_share prices units.Alu rows k low in
    let b = unit_share prices units.Mul rows k low in
    let c = unit_share prices units.Div rows k low in
    let d = unit_share prices units.Mem rows k low in
    let e = unit_share prices units.Bru rows k low in
    omega arith

-- the stations
stations_share : (prices : PriceList) (config : Configuration)
    → sum_by (share prices config) (map Station all_pools) ≡ stations_cost config prices
stations_share prices config =
    let a = mul_comm (price_of prices pools.Alu) (stations_of config pools.Alu) in
    let b = mul_comm (price_of prices pools.Mul) (stations_of config pools.Mul) in
    let c = mul_comm (price_of prices pools.Div) (stations_of config pools.Div) in
    let d = mul_comm (price_of prices pools.Load) (stations_of config pools.Load) in
    let e = mul_comm (price_of prices pools.Store) (stations_of config pools.Store) in
    let f = mul_comm (price_of prices pools.Bru) (stations_of config pools.Bru) in
    omega arith

pub cost_is_shares : (s : DesignSpace) (k : ℕ) → k < length s.rows
    → sum_by (share s.prices (get_or s.rows k plain)) (prices_of s) ≡ cost_of (get_or s.rows k plain) s.prices
unfolding prices_of
cost_is_shares s k low =
    let config = get_or s.rows k plain in
    let f = share s.prices config in
    let rest = flat_map (choices_of s.rows) all_units ++ Bus ∷ Width ∷ [] in
    let all = sum_by-append f (map Station all_pools) rest in
    let more = sum_by-append f (flat_map (choices_of s.rows) all_units) (Bus ∷ Width ∷ []) in
    let stations = stations_share s.prices config in
    let options = options_share s.prices s.rows k low in
    let bus = mul_comm s.prices.bus config.buses in
    let width = mul_comm s.prices.width config.width in
    omega arith
