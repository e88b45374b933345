-- More of several parts at once, at the ends of whose lists no program waits for them, is covered by a row.
use Rattle.std.proofs.Common.{◌≡◌, ℕ, suc, ◌+◌, ◌*◌, ◌≤◌, arith, ap, refl, List, [], ◌∷◌, map, true, inl, inr}
use Rattle.std.specs.List.{Contains}
use Rattle.std.proofs.Math.Nat.{mul-le-mul_right}
use Rattle.std.proofs.lemmas.Bool.Decides.{nat_tests}
use Rattle.tomex_config.specs.Configuration.{Configuration, option_of, stations_of}
use Rattle.tomex_config.specs.Cost.{PriceList, all_pools, all_units, cost_of, options_cost, price_of, stations_cost}
use Rattle.tomex_pareto.specs.Front.{rows_from}
use Rattle.tomex_pareto.specs.declared.front_row.FrontRow.{FrontRow}
use Rattle.tomex_study.specs.Cycles.{cycles_of, cycles_on}
use Rattle.tomex_study.specs.Program.{Workload}
use Rattle.tomex_study.specs.Study.{DesignSpace}
use Rattle.tomex_study.specs.StudyFront.{all_rows}
use Rattle.tomex_config.specs.Parts.{count_of}
use Rattle.tomex_config.specs.declared.part.Part.{Part}
use Rattle.tomex_config.specs.declared.part.Part.TheVariants.{Stations, Units, Buses, Width}
use Rattle.tomex_config.specs.Parts.{same_entry}
use Rattle.tomex_config.specs.Parts.{latency_in}
use Rattle.tomex_choices.specs.Ends.{AreReweighted, IsBeyondEnds, IsCoveredAtAnyPrice, IsUnneededAtEnd, price_in}
use Rattle.tomex_choices.specs.Ends.{repriced}
use Rattle.tomex_choices.specs.Laws.{HasMoreUnneeded, LongerListsAtOnce, LongerListsAtOnceAddNoPoints}
use Rattle.tomex_choices.specs.Passing.{Has}
use Rattle.tomex_choices.specs.Points.{IsCovered}
use Rattle.tomex_choices.proofs.AboveFloors.{sums_rise}
use Rattle.tomex_choices.proofs.Covered.{no_points_added}
use Rattle.tomex_choices.proofs.Passes.{contains_from, has_from}
use Rattle.tomex_choices.proofs.Unneeded.{nothing_needed}

-- what equal entries have in common

same_count : (a b : Configuration) (part : Part) → same_entry a b part ≡ true → count_of a part ≡ count_of b part
same_count a b (Stations pool) e = grind (arith, nat_tests)
same_count a b (Units unit) e = grind (arith, nat_tests)
same_count a b Buses e = grind (arith, nat_tests)
same_count a b Width e = grind (arith, nat_tests)

same_latency : (a b : Configuration) (part : Part) → same_entry a b part ≡ true → latency_in part a ≡ latency_in part b
same_latency a b (Stations pool) e = refl
same_latency a b (Units unit) e = grind (arith, nat_tests)
same_latency a b Buses e = refl
same_latency a b Width e = refl

same_price : (a b : Configuration) (part : Part) → same_entry a b part ≡ true → price_in part a ≡ price_in part b
same_price a b (Stations pool) e = refl
same_price a b (Units unit) e = grind (arith, nat_tests)
same_price a b Buses e = refl
same_price a b Width e = refl

sums : (a b c d e f g h : ℕ) → a ≤ b → c ≤ d → e ≤ f → g ≤ h → a + c + e + g ≤ b + d + f + h
sums a b c d e f g h p q r s = omega arith

-- a machine with no fewer of each part and no cheaper options costs no less
module _ (c d : Configuration) (counts : (part : Part) → count_of c part ≤ count_of d part)
    (options : (part : Part) → price_in part c ≤ price_in part d) where
  times : (m n price : ℕ) → m ≤ n → m * price ≤ n * price
  times m n price more = mul-le-mul_right price more

  stations_no_less : (prices : PriceList) → stations_cost c prices ≤ stations_cost d prices
  stations_no_less prices =
      sums_rise (λ pool. stations_of c pool * price_of prices pool) (λ pool. stations_of d pool * price_of prices pool)
      all_pools
      (λ pool h. times (stations_of c pool) (stations_of d pool) (price_of prices pool) (counts (Stations pool)))

  options_no_less : options_cost c ≤ options_cost d
  options_no_less =
      sums_rise (λ unit. (option_of c unit).price) (λ unit. (option_of d unit).price) all_units
      (λ unit h. options (Units unit))

  pub costs_no_less : (prices : PriceList) → cost_of c prices ≤ cost_of d prices
  costs_no_less prices =
      sums (stations_cost c prices) (stations_cost d prices) (options_cost c) (options_cost d) (c.buses * prices.bus)
      (d.buses * prices.bus) (c.width * prices.width) (d.width * prices.width) (stations_no_less prices) options_no_less
      (times c.buses d.buses prices.bus (counts Buses)) (times c.width d.width prices.width (counts Width))

module _ (s : DesignSpace) (parts : List Part) (d : Configuration)
    (unneeded : (part : Part) → Contains parts part → IsUnneededAtEnd s part) (beyond : IsBeyondEnds s parts d) where
  abbrev row : Configuration
  row = beyond.row

  more_unneeded : HasMoreUnneeded s row d
  more_unneeded = record {
    parts = λ part. elim (beyond.entries part) [
      | inl same ↦ inl (same_count d row part same)
      | inr w ↦ inr (w.1.more, λ p h. unneeded part w.0 row p beyond.is_row w.1.is_end h)
    ];
    latencies = λ unit. elim (beyond.entries (Units unit)) [
      | inl same ↦ same_latency d row (Units unit) same
      | inr w ↦ w.1.latency
    ];
  }

  no_fewer : (part : Part) → count_of row part ≤ count_of d part
  no_fewer part = elim (beyond.entries part) [
    | inl same ↦ omega (arith, same_count d row part same)
    | inr w ↦ w.1.more
  ]

  no_cheaper : (part : Part) → price_in part row ≤ price_in part d
  no_cheaper part = elim (beyond.entries part) [
    | inl same ↦ omega (arith, same_price d row part same)
    | inr w ↦ w.1.price
  ]

pub at_once : LongerListsAtOnce
at_once s parts d is unneeded within beyond = record {
  row = beyond.row;
  is_row = beyond.is_row;
  cost = costs_no_less beyond.row d (no_fewer s parts d unneeded beyond) (no_cheaper s parts d unneeded beyond);
  cycles = λ reweighted images.
      nothing_needed s beyond.row d reweighted is beyond.is_row within images
      (more_unneeded s parts d unneeded beyond);
}

-- the row of a configuration

row_with : (cost takes : Configuration → ℕ) (n : ℕ) (rows : List Configuration) (c : Configuration) → Has rows c
    → (r : FrontRow) × Has (rows_from n (map cost rows) (map takes rows)) r
    × (r.cost ≡ cost c) × (r.cycles ≡ takes c)
row_with cost takes n [] c h = absurd h
row_with cost takes n (b ∷ rows) c (inl e) =
    (record { row = n; cost = cost b; cycles = takes b }, inl refl, ap cost e, ap takes e)
row_with cost takes n (b ∷ rows) c (inr h) =
    let w = row_with cost takes (suc n) rows c h in
    (w.0, inr w.1, w.2, w.3)

covered_then : (s : DesignSpace) (d : Configuration) (reweighted : List Workload) (prices : PriceList)
    → AreReweighted s reweighted → IsCoveredAtAnyPrice s d → IsCovered (repriced s reweighted prices) d
unfolding cycles_of
covered_then s d reweighted prices images covered =
    let t = repriced s reweighted prices in
    let c = covered.row in
    let w = row_with (λ x. cost_of x prices) (cycles_on reweighted) 0 s.rows c (has_from s.rows c covered.is_row) in
    let costs : w.0.cost ≡ cost_of c prices = w.2 in
    let takes : w.0.cycles ≡ cycles_on reweighted c = w.3 in
    let cheap : cost_of c prices ≤ cost_of d prices = covered.cost prices in
    let same : cycles_on reweighted d ≡ cycles_on reweighted c = covered.cycles reweighted images in
    let cost : w.0.cost ≤ cost_of d prices = omega (arith, costs) in
    let cycles : w.0.cycles ≤ cycles_on reweighted d = omega (arith, takes, same) in
    record {
      row = w.0;
      is_row = contains_from (all_rows t) w.0 w.1;
      cost = cost;
      cycles = cycles;
    }

pub at_once_no_points : LongerListsAtOnceAddNoPoints
at_once_no_points s parts ds reweighted prices is unneeded beyond images =
    no_points_added (repriced s reweighted prices) ds (λ d h.
    let w = beyond d h in
    covered_then s d reweighted prices images (at_once s parts d is unneeded w.0 w.1))
