-- Costs with one price apart.
use Rattle.std.proofs.Common.{◌≡◌, ◌∙◌, ℕ, ◌+◌, ◌*◌, inl, inr, arith, ap, sym, refl, true, List, [], ◌∷◌}
use Rattle.std.proofs.Common.{length, ◌&&◌, ◌==◌}
use Rattle.tomex_rvdec.specs.Places.{place_of_pool, place_of_unit}
use Rattle.std.proofs.lemmas.Bool.{and_parts, cases_Bool, eqb-true}
use Rattle.std.proofs.lemmas.List.{set-get_or}
use Rattle.std.proofs.Math.Nat.{mul_comm}
use Rattle.tomex_rvdec.specs.declared.pool.PoolId.{PoolId}
use Rattle.tomex_rvdec.specs.declared.pool.PoolId.TheVariants as pools
use Rattle.tomex_rvdec.specs.declared.pool.UnitId.{UnitId}
use Rattle.tomex_rvdec.specs.declared.pool.UnitId.TheVariants as units
use Rattle.tomex_config.specs.declared.config.UnitOption.{UnitOption}
use Rattle.tomex_config.specs.Configuration.{Configuration, option_of, plain_option, stations_of, with_option}
use Rattle.tomex_config.specs.Cost.{PriceList, cost_of, options_cost}
use Rattle.tomex_prices.specs.declared.price.Price.{Price}
use Rattle.tomex_prices.specs.declared.price.Price.TheVariants.{Station, Choice, Bus, Width}
use Rattle.tomex_prices.specs.Price.{payments}
use Rattle.tomex_config.specs.Configuration.{same_option}
use Rattle.tomex_prices.specs.Repriced.{CostsSplit, StatedCostsStay, cost_with}

-- lists of six and of five

six : (P : List ℕ → Type 0) → ((a b c d e f : ℕ) → P (a ∷ b ∷ c ∷ d ∷ e ∷ f ∷ [])) → (xs : List ℕ) → length xs ≡ 6
    → P xs
six P each [] is = absurd (omega arith)
six P each (a ∷ []) is = absurd (omega arith)
six P each (a ∷ b ∷ []) is = absurd (omega arith)
six P each (a ∷ b ∷ c ∷ []) is = absurd (omega arith)
six P each (a ∷ b ∷ c ∷ d ∷ []) is = absurd (omega arith)
six P each (a ∷ b ∷ c ∷ d ∷ e ∷ []) is = absurd (omega arith)
six P each (a ∷ b ∷ c ∷ d ∷ e ∷ f ∷ []) is = each a b c d e f
six P each (a ∷ b ∷ c ∷ d ∷ e ∷ f ∷ g ∷ xs) is = absurd (omega arith)

five : (P : List UnitOption → Type 0) → ((a b c d e : UnitOption) → P (a ∷ b ∷ c ∷ d ∷ e ∷ []))
    → (xs : List UnitOption) → length xs ≡ 5 → P xs
five P each [] is = absurd (omega arith)
five P each (a ∷ []) is = absurd (omega arith)
five P each (a ∷ b ∷ []) is = absurd (omega arith)
five P each (a ∷ b ∷ c ∷ []) is = absurd (omega arith)
five P each (a ∷ b ∷ c ∷ d ∷ []) is = absurd (omega arith)
five P each (a ∷ b ∷ c ∷ d ∷ e ∷ []) is = each a b c d e
five P each (a ∷ b ∷ c ∷ d ∷ e ∷ f ∷ xs) is = absurd (omega arith)

-- a pool's stations

abbrev pools_cost : Configuration → (a b c d e f : ℕ) → ℕ
pools_cost config a b c d e f =
    0 + stations_of config pools.Alu * a + stations_of config pools.Mul * b + stations_of config pools.Div * c
    + stations_of config pools.Load * d + stations_of config pools.Store * e + stations_of config pools.Bru * f

list_of : (a b c d e f bus width : ℕ) → PriceList
list_of a b c d e f bus width = record { stations = a ∷ b ∷ c ∷ d ∷ e ∷ f ∷ []; bus = bus; width = width }

cost_is : (config : Configuration) (a b c d e f bus width : ℕ)
    → cost_of config (record { stations = a ∷ b ∷ c ∷ d ∷ e ∷ f ∷ []; bus = bus; width = width })
    ≡ pools_cost config a b c d e f + options_cost config + config.buses * bus + config.width * width
cost_is config a b c d e f bus width = refl

abbrev Splits : Price → ℕ → Configuration → (bus width : ℕ) → List ℕ → Type 0
Splits price q config bus width xs =
    cost_with price q (record { stations = xs; bus = bus; width = width }) config
    ≡ cost_with price 0 (record { stations = xs; bus = bus; width = width }) config + q * payments price config

station_split : (pool : PoolId) (q : ℕ) (config : Configuration) (bus width a b c d e f : ℕ)
    → Splits (Station pool) q config bus width (a ∷ b ∷ c ∷ d ∷ e ∷ f ∷ [])
station_split pools.Alu q config bus width a b c d e f =
    let x = cost_is config q b c d e f bus width in
    let y = cost_is config 0 b c d e f bus width in
    let m = mul_comm q (stations_of config pools.Alu) in
    omega arith
station_split pools.Mul q config bus width a b c d e f =
    let x = cost_is config a q c d e f bus width in
    let y = cost_is config a 0 c d e f bus width in
    let m = mul_comm q (stations_of config pools.Mul) in
    omega arith
station_split pools.Div q config bus width a b c d e f =
    let x = cost_is config a b q d e f bus width in
    let y = cost_is config a b 0 d e f bus width in
    let m = mul_comm q (stations_of config pools.Div) in
    omega arith
station_split pools.Load q config bus width a b c d e f =
    let x = cost_is config a b c q e f bus width in
    let y = cost_is config a b c 0 e f bus width in
    let m = mul_comm q (stations_of config pools.Load) in
    omega arith
station_split pools.Store q config bus width a b c d e f =
    let x = cost_is config a b c d q f bus width in
    let y = cost_is config a b c d 0 f bus width in
    let m = mul_comm q (stations_of config pools.Store) in
    omega arith
station_split pools.Bru q config bus width a b c d e f =
    let x = cost_is config a b c d e q bus width in
    let y = cost_is config a b c d e 0 bus width in
    let m = mul_comm q (stations_of config pools.Bru) in
    omega arith

-- an option

abbrev of_units : Configuration → List UnitOption → Configuration
of_units config xs = record { stations = config.stations; units = xs; buses = config.buses; width = config.width }

abbrev Sums : UnitId → UnitOption → ℕ → Configuration → List UnitOption → Type 0
Sums unit o q config xs =
    options_cost (with_option unit (of_units config xs) (record o { price = q }))
    ≡ options_cost (with_option unit (of_units config xs) (record o { price = 0 })) + q

sums_split : (unit : UnitId) (o : UnitOption) (q : ℕ) (config : Configuration) (a b c d e : UnitOption)
    → Sums unit o q config (a ∷ b ∷ c ∷ d ∷ e ∷ [])
sums_split units.Alu o q config a b c d e = omega arith
sums_split units.Mul o q config a b c d e = omega arith
sums_split units.Div o q config a b c d e = omega arith
sums_split units.Mem o q config a b c d e = omega arith
sums_split units.Bru o q config a b c d e = omega arith

choice_split : (unit : UnitId) (o : UnitOption) (q : ℕ) (prices : PriceList) (config : Configuration)
    → length config.units ≡ 5
    → cost_with (Choice unit o) q prices config
    ≡ cost_with (Choice unit o) 0 prices config + q * payments (Choice unit o) config
choice_split unit o q prices config kinds = elim (cases_Bool (same_option (option_of config unit) o)) [
  | inl holds ↦
      let s : Sums unit o q config config.units =
      five (Sums unit o q config) (λ a b c d e. sums_split unit o q config a b c d e) config.units kinds in
      rw holds (let z :
      cost_of (with_option unit config (record o { price = q })) prices
      ≡ cost_of (with_option unit config (record o { price = 0 })) prices + q * 1 = omega arith in z)
  | inr fails ↦ rw fails (let z : cost_of config prices ≡ cost_of config prices + q * 0 = omega arith in z)
]

pub costs_split : CostsSplit
costs_split (Station pool) q prices config list good =
    six (Splits (Station pool) q config prices.bus prices.width)
    (λ a b c d e f. station_split pool q config prices.bus prices.width a b c d e f) prices.stations list.pools
costs_split (Choice unit o) q prices config list good = choice_split unit o q prices config good.kinds
costs_split Bus q prices config list good = let m = mul_comm q config.buses in omega arith
costs_split Width q prices config list good = let m = mul_comm q config.width in omega arith

-- a price replaced by its stated value

pub same_are_one : (a b : UnitOption) → same_option a b ≡ true → a ≡ b
same_are_one a b same =
    let p = and_parts (a.units == b.units && a.latency == b.latency) (a.price == b.price) same in
    let q = and_parts (a.units == b.units) (a.latency == b.latency) p.0 in
    let x : UnitOption = record { units = b.units; latency = a.latency; price = a.price } in
    let y : UnitOption = record { units = b.units; latency = b.latency; price = a.price } in
    let i : a ≡ x =
    ap (λ (n : ℕ). record { units = n; latency = a.latency; price = a.price }) (eqb-true a.units b.units q.0) in
    let j : x ≡ y =
    ap (λ (n : ℕ). record { units = b.units; latency = n; price = a.price }) (eqb-true a.latency b.latency q.1) in
    let k : y ≡ b =
    ap (λ (n : ℕ). record { units = b.units; latency = b.latency; price = n }) (eqb-true a.price b.price p.1) in
    i ∙ (j ∙ k)

choice_stays : (unit : UnitId) (o : UnitOption) (prices : PriceList) (config : Configuration)
    → cost_with (Choice unit o) o.price prices config ≡ cost_of config prices
choice_stays unit o prices config = elim (cases_Bool (same_option (option_of config unit) o)) [
  | inl holds ↦
      let e = same_are_one (option_of config unit) o holds in
      let f : with_option unit config o ≡ config =
      ap (λ (u : UnitOption). with_option unit config u) (sym e)
      ∙ ap (λ (xs : List UnitOption). of_units config xs) (set-get_or config.units (place_of_unit unit) plain_option) in
      rw holds (ap (λ (c : Configuration). cost_of c prices) f)
  | inr fails ↦ rw fails refl
]

pub stated_costs_stay : StatedCostsStay
stated_costs_stay (Station pool) prices config list good =
    ap (λ (xs : List ℕ). cost_of config (record { stations = xs; bus = prices.bus; width = prices.width }))
    (set-get_or prices.stations (place_of_pool pool) 0)
stated_costs_stay (Choice unit o) prices config list good = choice_stays unit o prices config
stated_costs_stay Bus prices config list good = refl
stated_costs_stay Width prices config list good = refl
