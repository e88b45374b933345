-- A study with a longer or finer list has no better machine than the new machines of that list.
use Rattle.std.proofs.Common.{◌≡◌, ◌≢◌, ℕ, ◌<◌, ◌≤◌, ◌==◌, arith, ap, sym, refl, subst, ◌∙◌, List, length}
use Rattle.std.proofs.Common.{get_or, true, inl, inr, Option}
use Rattle.std.specs.List.{range_with_len}
use Rattle.std.proofs.Math.ListN.{set, length-set}
use Rattle.std.proofs.lemmas.Bool.{cases_Bool}
use Rattle.std.proofs.lemmas.Bool.Decides.{nat_tests}
use Rattle.std.proofs.lemmas.List.{get_or-set_other, get_or-set_same, set-get_or, set-set}
use Rattle.tomex_image.specs.Image.{Loaded}
use Rattle.tomex_rvdec.specs.Places.{place_of_unit}
use Rattle.tomex_rvdec.specs.declared.pool.UnitId.{UnitId}
use Rattle.tomex_rvdec.specs.declared.pool.UnitId.TheVariants as units
use Rattle.tomex_config.specs.Configuration.{Configuration, IsWithinLimits, config_of, is_option, most_units, option_of}
use Rattle.tomex_config.specs.Configuration.{plain_option, with_option}
use Rattle.tomex_config.specs.Cost.{PriceList, all_units, cost_of, options_cost}
use Rattle.tomex_config.specs.declared.config.UnitOption.{UnitOption}
use Rattle.tomex_study.specs.Cycles.{cycles_on}
use Rattle.tomex_study.specs.Study.{DesignSpace}
use Rattle.tomex_timing.specs.Run.{total}
use Rattle.tomex_config.specs.declared.part.Part.{Part}
use Rattle.tomex_config.specs.declared.part.Part.TheVariants.{Stations, Units, Buses, Width}
use Rattle.tomex_config.specs.Parts.{most_of}
use Rattle.tomex_choices.specs.Laws.{CompleteListsAreComplete, IsDearer, with_price}
use Rattle.tomex_choices.specs.NewMachines.{brought_by, grown, machine_if, machine_of, new_machines}
use Rattle.tomex_choices.specs.Passing.{Has}
use Rattle.tomex_choices.specs.declared.new_machine.NewMachine.{NewMachine}
use Rattle.tomex_choices.proofs.AboveFloors.{sums_rise}
use Rattle.tomex_config.proofs.Within.{option_within, own_option}
use Rattle.tomex_rvdec.proofs.Places.{unit_low}
use Rattle.tomex_choices.proofs.EnoughFrom.{in_range}
use Rattle.tomex_choices.proofs.Finding.{has_flat_map}
use Rattle.tomex_choices.proofs.Passes.{contains_from, has_from}
use Rattle.tomex_choices.proofs.PriceFree.{same_cycles}
use Rattle.tomex_choices.proofs.SameTotals.{same_total}

-- the option of a kind of unit is within its limits
fits_of : (d : Configuration) (unit : UnitId) → IsWithinLimits d → is_option (most_units unit) (option_of d unit) ≡ true
fits_of d units.Alu within = own_option d units.Alu within
fits_of d units.Mul within = own_option d units.Mul within
fits_of d units.Div within = own_option d units.Div within
fits_of d units.Mem within = own_option d units.Mem within
fits_of d units.Bru within =
    let own = own_option d units.Bru within in
    let one = within.branch_unit in
    grind (arith, nat_tests)

cheaper_fits : (most : ℕ) (o : UnitOption) (price : ℕ) → o.price ≤ price
    → is_option most (record { units = o.units; latency = o.latency; price = price }) ≡ true → is_option most o ≡ true
cheaper_fits most o price less fits = grind (arith, nat_tests)

-- a configuration with its own option
pub same_again : (unit : UnitId) (e : Configuration) → with_option unit e (option_of e unit) ≡ e
same_again unit e =
    let f : config_of e.stations (set e.units (place_of_unit unit) (option_of e unit)) e.buses e.width
    ≡ config_of e.stations e.units e.buses e.width =
    ap (λ (us : List UnitOption). config_of e.stations us e.buses e.width)
    (set-get_or e.units (place_of_unit unit) plain_option) in
    f

-- a higher price of an option
module _ (unit : UnitId) (e : Configuration) (price : ℕ) (kinds : length e.units ≡ 5)
    (more : (option_of e unit).price ≤ price) where
  abbrev dear : UnitOption
  dear = record { units = (option_of e unit).units; latency = (option_of e unit).latency; price = price }

  abbrev place : ℕ
  place = place_of_unit unit

  low : place < length e.units
  low = let l = unit_low unit in omega (arith, kinds)

  own_price : (get_or (set e.units place dear) place plain_option).price ≡ price
  own_price = ap (λ (o : UnitOption). o.price) (get_or-set_same e.units place dear plain_option low)

  price_at : (other : UnitId) → (option_of e other).price ≤ (option_of (with_price unit e price) other).price
  price_at other = elim (cases_Bool (place_of_unit other == place)) [
    | inl s ↦
        let at : place_of_unit other ≡ place = grind (arith, nat_tests) in
        let own : (get_or e.units place plain_option).price
        ≤ (get_or (set e.units place dear) place plain_option).price = omega (arith, own_price, more) in
        subst (λ (n : ℕ). (get_or e.units n plain_option).price
        ≤ (get_or (set e.units place dear) n plain_option).price) (sym at) own
    | inr s ↦
        let apart : place_of_unit other ≢ place = λ at. grind (arith, nat_tests) in
        let same = ap (λ (o : UnitOption). o.price)
        (get_or-set_other e.units place (place_of_unit other) dear plain_option apart) in
        omega (arith, same)
  ]

  pub dearer_cost : (prices : PriceList) → cost_of e prices ≤ cost_of (with_price unit e price) prices
  dearer_cost prices =
      let options : options_cost e ≤ options_cost (with_price unit e price) =
      sums_rise (λ (u : UnitId). (option_of e u).price) (λ u. (option_of (with_price unit e price) u).price) all_units
      (λ u h. price_at u) in
      omega (arith, options)

  cheaper_again : with_option unit (with_price unit e price) (option_of e unit) ≡ e
  cheaper_again =
      let own : set (set e.units place dear) place (option_of e unit) ≡ e.units =
      set-set e.units place dear (option_of e unit) ∙ set-get_or e.units place plain_option in
      let f : config_of e.stations (set (set e.units place dear) place (option_of e unit)) e.buses e.width
      ≡ config_of e.stations e.units e.buses e.width =
      ap (λ (us : List UnitOption). config_of e.stations us e.buses e.width) own in
      f

  cheaper_within : IsWithinLimits (with_price unit e price) → IsWithinLimits e
  cheaper_within within =
      let own : option_of (with_price unit e price) unit ≡ dear =
      get_or-set_same e.units place dear plain_option low in
      let fits : is_option (most_units unit) dear ≡ true =
      subst (λ (o : UnitOption). is_option (most_units unit) o ≡ true) own
      (fits_of (with_price unit e price) unit within) in
      subst IsWithinLimits cheaper_again
      (option_within (with_price unit e price) unit (option_of e unit) within
      (cheaper_fits (most_units unit) (option_of e unit) price more fits))

  pub dearer_total : (image : Loaded) → IsWithinLimits (with_price unit e price)
      → total (with_price unit e price) image ≡ total e image
  dearer_total image within =
      same_total e unit (option_of e unit) dear kinds refl refl image
      (subst IsWithinLimits (sym (same_again unit e)) (cheaper_within within)) within
      ∙ ap (λ (c : Configuration). total c image) (same_again unit e)

-- it costs no less, and takes as many cycles
is_no_better : (s : DesignSpace) (part : Part) (e d : Configuration) → IsDearer part e d → IsWithinLimits d
    → (cost_of e s.prices ≤ cost_of d s.prices) × (cycles_on s.programs e ≡ cycles_on s.programs d)
is_no_better s (Stations pool) e d same within =
    (omega (arith, ap (λ (c : Configuration). cost_of c s.prices) same), ap (cycles_on s.programs) (sym same))
is_no_better s Buses e d same within =
    (omega (arith, ap (λ (c : Configuration). cost_of c s.prices) same), ap (cycles_on s.programs) (sym same))
is_no_better s Width e d same within =
    (omega (arith, ap (λ (c : Configuration). cost_of c s.prices) same), ap (cycles_on s.programs) (sym same))
is_no_better s (Units unit) e d w within =
    let lawful = subst IsWithinLimits w.2 within in
    let own = lawful.kinds in
    let kinds : length e.units ≡ 5 =
    sym (length-set e.units (place_of_unit unit) (dear_of unit e w.0)) ∙ own in (
      subst (λ (c : Configuration). cost_of e s.prices ≤ cost_of c s.prices) (sym w.2)
          (dearer_cost unit e w.0 kinds w.1 s.prices),
      same_cycles s.programs s.programs e d refl
          (λ p h. sym (dearer_total unit e w.0 kinds w.1 p.image lawful)
          ∙ ap (λ (c : Configuration). total c p.image) (sym w.2)),
    )
  where
    dear_of : UnitId → Configuration → ℕ → UnitOption
    dear_of unit e price =
        record { units = (option_of e unit).units; latency = (option_of e unit).latency; price = price }

pub complete_is_complete : CompleteListsAreComplete
unfolding new_machines brought_by
complete_is_complete s part d within longer =
    let x : NewMachine = machine_of s part longer.number longer.new in
    let w = is_no_better s part longer.new d longer.dearer within in
    let some = longer.some in
    let few = longer.few in
    let here : Has (machine_if s part longer.number (grown s.rows part longer.row longer.number)) x =
    subst (λ (o : Option Configuration). Has (machine_if s part longer.number o) x) (sym longer.is_grown)
    (inl refl) in (
      x,
      contains_from (new_machines s part) x
          (has_flat_map (brought_by s part) s.rows longer.row x (has_from s.rows longer.row longer.is_row)
          (has_flat_map (λ n. machine_if s part n (grown s.rows part longer.row n)) (range_with_len 1 (most_of part))
          longer.number x (in_range 1 (most_of part) longer.number some (omega arith)) here)),
      w.0,
      w.1,
    )
