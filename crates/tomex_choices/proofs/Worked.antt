-- The choices of some rows, computed by the definitions themselves: the rows of examples/study.toml, an alu station at
-- 10, the fast multiplier at 40, the slow one at 15, a bus at 25.
use Rattle.std.proofs.Common.{◌≡◌, ◌⊎◌, arith, refl, ℕ, zero, suc, List, [], ◌∷◌, inl, inr, map, Some, None}
use Rattle.std.specs.Prelude.{false, nat_le, true}
use Rattle.std.specs.List.{Contains, filter, list_all}
use Rattle.std.proofs.lemmas.Bool.Decides.{nat_tests}
use Rattle.tomex_rvdec.specs.declared.pool.PoolId.TheVariants as pools
use Rattle.tomex_rvdec.specs.declared.pool.UnitId.TheVariants as units
use Rattle.tomex_config.specs.Configuration.{Configuration, plain_option}
use Rattle.tomex_config.specs.Cost.{PriceList}
use Rattle.tomex_config.specs.declared.config.UnitOption.{UnitOption}
use Rattle.tomex_pareto.specs.Front.{front_of, rows_from}
use Rattle.tomex_pareto.specs.declared.front_row.FrontRow.{FrontRow}
use Rattle.tomex_study.specs.Cycles.{cycles_on}
use Rattle.tomex_study.specs.Study.{DesignSpace, costs_of}
use Rattle.tomex_config.specs.Parts.{count_of}
use Rattle.tomex_config.specs.declared.part.Part.{Part}
use Rattle.tomex_config.specs.declared.part.Part.TheVariants.{Stations, Units, Buses, Width}
use Rattle.tomex_config.specs.Parts.{count_of, latency_in, same_entry}
use Rattle.tomex_study.specs.Choices.{choices}
use Rattle.tomex_choices.specs.Ends.{HasMoreAtEnd, IsAtEnd, IsBeyondEnds}
use Rattle.tomex_choices.specs.Enough.{stays_from}
use Rattle.tomex_choices.specs.Laws.{has_no_unwanted}
use Rattle.tomex_choices.specs.NewMachines.{brought_by, greatest_units, lacking, least_price}
use Rattle.tomex_choices.specs.Points.{front_points}
use Rattle.tomex_choices.specs.Savings.{complete, is_of_use, saving_among, thousandths}
use Rattle.tomex_choices.specs.declared.new_machine.NewMachine.{NewMachine}
use Rattle.tomex_choices.proofs.EnoughFrom.{all_at}
use Rattle.tomex_choices.proofs.Passes.{has_from}

abbrev option : ℕ → ℕ → ℕ → UnitOption
option count latency price = record { units = count; latency = latency; price = price }

abbrev fast : UnitOption
fast = option 1 3 40

abbrev slow : UnitOption
slow = option 1 6 15

abbrev config : ℕ → UnitOption → ℕ → Configuration
config alu mul buses = record {
  stations = alu ∷ 1 ∷ 1 ∷ 1 ∷ 1 ∷ 1 ∷ [];
  units = plain_option ∷ mul ∷ plain_option ∷ plain_option ∷ plain_option ∷ [];
  buses = buses;
  width = 1;
}

abbrev rows : List Configuration
rows =
    config 1 fast 1 ∷ config 1 fast 2 ∷ config 1 slow 1 ∷ config 1 slow 2 ∷ config 2 fast 1 ∷ config 2 fast 2
    ∷ config 2 slow 1 ∷ config 2 slow 2 ∷ config 4 fast 1 ∷ config 4 fast 2 ∷ config 4 slow 1 ∷ config 4 slow 2 ∷ []

abbrev list : PriceList
list = record { stations = 10 ∷ 0 ∷ 0 ∷ 0 ∷ 0 ∷ 0 ∷ []; bus = 25; width = 0 }

abbrev study_of : List Configuration → DesignSpace
study_of configs =
    record { programs = []; rows = configs; costs = costs_of list configs; prices = list; wide = false }

abbrev study : DesignSpace
study = study_of rows

-- the numbers of a part that configurations have, and the latencies of its units
abbrev counts : Part → List Configuration → List ℕ
counts part configs = map (λ c. count_of c part) configs

abbrev latencies : Part → List Configuration → List ℕ
latencies part configs = map (latency_in part) configs

-- what the lists have
alu_choices : counts (Stations pools.Alu) (choices study (Stations pools.Alu)) ≡ 1 ∷ 2 ∷ 4 ∷ []
alu_choices = refl

mul_choices : (counts (Units units.Mul) (choices study (Units units.Mul)) ≡ 1 ∷ 1 ∷ [])
    × (latencies (Units units.Mul) (choices study (Units units.Mul)) ≡ 3 ∷ 6 ∷ [])
mul_choices = (refl, refl)

-- what they lack
buses_lack : counts Buses (lacking study Buses) ≡ 3 ∷ 4 ∷ 5 ∷ 6 ∷ 7 ∷ 8 ∷ []
unfolding lacking
buses_lack = refl

widths_lack : counts Width (lacking study Width) ≡ 2 ∷ 3 ∷ 4 ∷ []
unfolding lacking
widths_lack = refl

branch_units_lack : lacking study (Units units.Bru) ≡ []
unfolding lacking greatest_units
branch_units_lack = refl

-- of options more units than any of the latency, for each latency
abbrev more : DesignSpace
more = study_of (config 1 (option 6 3 40) 1 ∷ config 1 (option 7 6 15) 1 ∷ config 1 (option 6 3 30) 1
    ∷ config 1 (option 5 3 20) 1 ∷ [])

mul_units_lack : (counts (Units units.Mul) (lacking more (Units units.Mul)) ≡ 7 ∷ 8 ∷ 8 ∷ [])
    × (latencies (Units units.Mul) (lacking more (Units units.Mul)) ≡ 3 ∷ 3 ∷ 6 ∷ [])
unfolding lacking greatest_units least_price
mul_units_lack = (refl, refl)

-- at the price of the cheapest with most units: 10 for the station, 25 for the bus, 30 for the option
abbrev of_units : ℕ → NewMachine
of_units n = record { number = n; latency = 3; cost = 65; cycles = 0 }

mul_units_cost : brought_by more (Units units.Mul) (config 1 (option 5 3 20) 1) ≡ of_units 7 ∷ of_units 8 ∷ []
unfolding brought_by greatest_units least_price cycles_on
mul_units_cost = refl

-- which new machines are of use, and what they save: by their numbers, costs and cycles
abbrev cycles : List ℕ
cycles = 10 ∷ 10 ∷ 13 ∷ 13 ∷ 8 ∷ 8 ∷ 11 ∷ 11 ∷ 8 ∷ 8 ∷ 11 ∷ 11 ∷ []

abbrev all : List FrontRow
all = rows_from 0 (costs_of list rows) cycles

abbrev machine : ℕ → ℕ → ℕ → NewMachine
machine n cost y = record { number = n; latency = 0; cost = cost; cycles = y }

-- the second is as good as a row, the third is beaten by the fourth and that by the first; the last is cheaper than all
-- rows
abbrev new : List NewMachine
new =
    machine 3 95 7 ∷ machine 3 85 8 ∷ machine 5 95 7 ∷ machine 4 95 7 ∷ machine 4 115 5 ∷ machine 5 135 5
    ∷ machine 1 40 14 ∷ []

of_use : map (is_of_use all new) new ≡ true ∷ false ∷ false ∷ false ∷ true ∷ false ∷ true ∷ []
of_use = refl

saving : saving_among all new ≡ Some (record { cost = 115; now = 8; new = 5 })
saving = refl

thousandth : thousandths (record { cost = 115; now = 8; new = 5 }) ≡ 375
thousandth = refl

-- a machine at no more than the cheapest row's cost counts from that on
cheap_saving : saving_among all (machine 1 40 12 ∷ machine 2 60 10 ∷ [])
    ≡ Some (record { cost = 60; now = 11; new = 10 })
cheap_saving = refl

cheapest_saving : saving_among all (machine 1 40 11 ∷ []) ≡ Some (record { cost = 50; now = 13; new = 11 })
cheapest_saving = refl

no_saving : saving_among all (machine 1 40 14 ∷ machine 2 90 8 ∷ []) ≡ None
no_saving = refl

-- with those that are of use the front has the same points as with all of them, each of them once
few_points : front_points (complete all (filter (is_of_use all new) new))
    ≡ (40, 14) ∷ (50, 13) ∷ (60, 11) ∷ (75, 10) ∷ (85, 8) ∷ (95, 7) ∷ (115, 5) ∷ []
unfolding front_of
few_points = refl

all_points : front_points (complete all new)
    ≡ (40, 14) ∷ (50, 13) ∷ (60, 11) ∷ (75, 10) ∷ (85, 8) ∷ (85, 8) ∷ (95, 7) ∷ (95, 7) ∷ (95, 7) ∷ (115, 5) ∷ []
unfolding front_of
all_points = refl

-- the rows that are left without four alu stations and without two buses
abbrev unwanted : Part → List Configuration
unwanted (Stations pools.Alu) = config 4 fast 1 ∷ []
unwanted Buses = config 1 fast 2 ∷ []
unwanted part = []

left : filter (has_no_unwanted unwanted) rows
    ≡ config 1 fast 1 ∷ config 1 slow 1 ∷ config 2 fast 1 ∷ config 2 slow 1 ∷ []
left = refl

-- more alu stations and buses than any row has, at once
at_end : (part : Part) (most : ℕ) (c : Configuration) → list_all (λ d. nat_le (count_of d part) most) rows ≡ true
    → count_of c part ≡ most → IsAtEnd study part c
at_end part most c all is d row same =
    let low : nat_le (count_of d part) most ≡ true =
    all_at (λ d. nat_le (count_of d part) most) rows d all (has_from rows d row) in
    grind (arith, nat_tests)

abbrev two_parts : List Part
two_parts = Stations pools.Alu ∷ Buses ∷ []

entries : (part : Part) → (same_entry (config 16 fast 8) (config 4 fast 2) part ≡ true)
    ⊎ Contains two_parts part × HasMoreAtEnd study part (config 4 fast 2) (config 16 fast 8)
entries (Stations pools.Alu) =
    inr (
      (0, omega arith, refl),
      record {
        is_end = at_end (Stations pools.Alu) 4 (config 4 fast 2) refl refl;
        more = omega arith;
        latency = refl;
        price = omega arith;
      },
    )
entries (Stations pools.Mul) = inl refl
entries (Stations pools.Div) = inl refl
entries (Stations pools.Load) = inl refl
entries (Stations pools.Store) = inl refl
entries (Stations pools.Bru) = inl refl
entries (Units units.Alu) = inl refl
entries (Units units.Mul) = inl refl
entries (Units units.Div) = inl refl
entries (Units units.Mem) = inl refl
entries (Units units.Bru) = inl refl
entries Buses =
    inr (
      (1, omega arith, refl),
      record {
        is_end = at_end Buses 2 (config 4 fast 2) refl refl;
        more = omega arith;
        latency = refl;
        price = omega arith;
      },
    )
entries Width = inl refl

beyond : IsBeyondEnds study two_parts (config 16 fast 8)
beyond = record { row = config 4 fast 2; is_row = (9, omega arith, refl); entries = entries }

-- 25, 24, 25 and 25 cycles at widths 1 to 4: enough from 3 on
abbrev uneven : ℕ → ℕ
uneven (suc zero) = 25
uneven (suc (suc zero)) = 24
uneven n = 25

settles : map (stays_from uneven 4) (1 ∷ 2 ∷ 3 ∷ 4 ∷ []) ≡ false ∷ false ∷ true ∷ true ∷ []
settles = refl
