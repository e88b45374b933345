-- The most units of the options of a latency, and the least price of such an option, found row by row.
use Rattle.std.proofs.Common.{◌≡◌, ℕ, ◌<◌, ◌≤◌, ◌+◌, ◌==◌, ◌&&◌, arith, ap, sym, refl, ◌∙◌, List, [], ◌∷◌, Bool}
use Rattle.std.proofs.Common.{cond, inl, inr, drop, get_or, length, map, Option, None}
use Rattle.std.specs.Prelude.{max, unwrap_or}
use Rattle.std.specs.List.{filter}
use Rattle.std.proofs.lemmas.Bool.{cases_Bool}
use Rattle.std.proofs.lemmas.Bool.Decides.{nat_tests}
use Rattle.std.proofs.lemmas.List.{at_drop_all, at_drop_more}
use Rattle.tomex_rvdec.specs.declared.pool.UnitId.{UnitId}
use Rattle.tomex_config.specs.Configuration.{Configuration, option_of}
use Rattle.tomex_survey.specs.Extremes.{least}
use Rattle.tomex_choices.specs.NewMachines.{greatest_units, least_price, options_at}
use Rattle.tomex_choices.specs.declared.entries.MostUnits.{MostUnits}
use Rattle.tomex_survey.proofs.Leasts.{least_by, least_by_is}

abbrev pub no_units : MostUnits
no_units = record { units = 0; price = 0 }

-- the most units

first_units : (c : Configuration) (rows : List Configuration) (unit : UnitId) (latency : ℕ)
    → greatest_units (c ∷ rows) unit latency
    ≡ cond ((option_of c unit).latency == latency) (max (option_of c unit).units (greatest_units rows unit latency))
    (greatest_units rows unit latency)
unfolding greatest_units
first_units c rows unit latency = elim (cases_Bool ((option_of c unit).latency == latency)) [
  | inl e ↦ rw e refl
  | inr e ↦ rw e refl
]

pub more_units_at : (rows : List Configuration) (unit : UnitId) (latency k so_far next : ℕ) (c : Configuration)
    → k < length rows → c ≡ get_or rows k c
    → next ≡ cond ((option_of c unit).latency == latency) (max (option_of c unit).units so_far) so_far
    → max so_far (greatest_units (drop k rows) unit latency) ≡ greatest_units rows unit latency
    → max next (greatest_units (drop (k + 1) rows) unit latency) ≡ greatest_units rows unit latency
more_units_at rows unit latency k so_far next c low at is before =
    let e : greatest_units (drop k rows) unit latency
    ≡ cond ((option_of c unit).latency == latency)
    (max (option_of c unit).units (greatest_units (drop (k + 1) rows) unit latency))
    (greatest_units (drop (k + 1) rows) unit latency) =
    at_drop_more (λ (cs : List Configuration). greatest_units cs unit latency) rows k c low
    ∙ (ap (λ (d : Configuration). greatest_units (d ∷ drop (k + 1) rows) unit latency) (sym at)
    ∙ first_units c (drop (k + 1) rows) unit latency) in
    grind (arith, nat_tests)

pub all_units_at : (rows : List Configuration) (unit : UnitId) (latency k so_far : ℕ) → length rows ≤ k
    → max so_far (greatest_units (drop k rows) unit latency) ≡ greatest_units rows unit latency
    → so_far ≡ greatest_units rows unit latency
unfolding greatest_units
all_units_at rows unit latency k so_far past before =
    let e : greatest_units (drop k rows) unit latency ≡ 0 =
    at_drop_all (λ (cs : List Configuration). greatest_units cs unit latency) rows k past in
    omega (arith, e, before)

-- the least price of those with that number of units

abbrev pub is_such : UnitId → ℕ → ℕ → Configuration → Bool
is_such unit latency units c = (option_of c unit).latency == latency && (option_of c unit).units == units

abbrev pub price_of : UnitId → Configuration → ℕ
price_of unit c = (option_of c unit).price

prices_of : (rows : List Configuration) (unit : UnitId) (latency units : ℕ)
    → map (price_of unit) (filter (is_such unit latency units) rows)
    ≡ map (λ o. o.price) (filter (λ o. o.units == units) (options_at rows unit latency))
prices_of [] unit latency units = refl
prices_of (c ∷ rows) unit latency units = elim (cases_Bool ((option_of c unit).latency == latency)) [
  | inl e ↦ elim (cases_Bool ((option_of c unit).units == units)) [
    | inl f ↦ rw (e, f, prices_of rows unit latency units) refl
    | inr f ↦ rw (e, f) (prices_of rows unit latency units)
  ]
  | inr e ↦ rw e (prices_of rows unit latency units)
]

pub least_price_is : (rows : List Configuration) (unit : UnitId) (latency units : ℕ)
    → units ≡ greatest_units rows unit latency
    → unwrap_or (least_by (is_such unit latency units) (price_of unit) None rows) 0 ≡ least_price rows unit latency
unfolding least_price
least_price_is rows unit latency units is =
    ap (λ (o : Option ℕ). unwrap_or o 0) (least_by_is (is_such unit latency units) (price_of unit) rows
    ∙ (ap least (prices_of rows unit latency units)
    ∙ ap (λ (n : ℕ). least (map (λ o. o.price) (filter (λ o. o.units == n) (options_at rows unit latency)))) is))
