-- The price of a choice of units changes no cycles.
use Rattle.std.proofs.Common.{◌≡◌, ◌∙◌, ℕ, ◌*◌, ◌<◌, ◌≤◌, ◌&&◌, inl, inr, arith, ap, refl, true}
use Rattle.std.proofs.Common.{length, List, [], ◌∷◌, nat_le}
use Rattle.std.specs.List.{sum_by}
use Rattle.std.proofs.Math.ListN.{length-set}
use Rattle.std.proofs.lemmas.Bool.{and_from, and_parts, cases_eq, le-leb}
use Rattle.std.proofs.lemmas.List.{get_or-set_other, get_or-set_same}
use Rattle.std.proofs.lemmas.List.Elements.{All-set}
use Rattle.std.proofs.lemmas.List.Sums.{sum_by-cons}
use Rattle.tomex_rvdec.specs.Places.{place_of_unit}
use Rattle.tomex_rvdec.specs.declared.pool.UnitId.{UnitId}
use Rattle.tomex_rvdec.specs.declared.pool.UnitId.TheVariants.{Bru}
use Rattle.tomex_rvdec.proofs.Places.{unit_low}
use Rattle.tomex_image.specs.Image.{Loaded}
use Rattle.tomex_rvexec.specs.Run.{start_of}
use Rattle.tomex_rvexec.specs.Trace.{steps_from}
use Rattle.tomex_config.specs.declared.config.UnitOption.{UnitOption}
use Rattle.tomex_config.specs.Configuration.{Configuration, IsWithinLimits, is_between, is_option, option_of}
use Rattle.tomex_config.specs.Configuration.{plain_option, with_option}
use Rattle.tomex_config.specs.declared.part.Part.{Part}
use Rattle.tomex_config.specs.declared.part.Part.TheVariants.{Stations, Units, Buses, Width}
use Rattle.tomex_config.specs.Parts.{count_of}
use Rattle.tomex_timing.specs.declared.times.Done.{Done}
use Rattle.tomex_timing.specs.History.{greatest_end}
use Rattle.tomex_timing.specs.Needs.{Serves}
use Rattle.tomex_timing.specs.Search.{history}
use Rattle.tomex_timing.specs.Run.{run_of, total}
use Rattle.tomex_timing.proofs.SameTimes.{serves_history}
use Rattle.tomex_study.specs.Program.{Workload}
use Rattle.tomex_study.specs.Cycles.{cycles_of_run, cycles_on}

abbrev pub other_price : UnitId → ℕ → Configuration → Configuration
other_price unit q config = with_option unit config (record (option_of config unit) { price = q })

option_is : (unit u : UnitId) (q : ℕ) (config : Configuration) → length config.units ≡ 5
    → ((option_of (other_price unit q config) u).units ≡ (option_of config u).units)
    × ((option_of (other_price unit q config) u).latency ≡ (option_of config u).latency)
option_is unit u q config kinds = elim (cases_eq (place_of_unit u) (place_of_unit unit)) [
  | inl same ↦
      let o : UnitOption = record (option_of config unit) { price = q } in
      let low : place_of_unit unit < length config.units = rw kinds (unit_low unit) in
      let e : option_of (other_price unit q config) u ≡ o =
      rw same (get_or-set_same config.units (place_of_unit unit) o plain_option low) in
      let f : option_of config unit ≡ option_of config u = rw same refl in (
        ap (λ (x : UnitOption). x.units) e ∙ ap (λ (x : UnitOption). x.units) f,
        ap (λ (x : UnitOption). x.latency) e ∙ ap (λ (x : UnitOption). x.latency) f,
      )
  | inr other ↦
      let o : UnitOption = record (option_of config unit) { price = q } in
      let e : option_of (other_price unit q config) u ≡ option_of config u =
      get_or-set_other config.units (place_of_unit unit) (place_of_unit u) o plain_option other in
      (ap (λ (x : UnitOption). x.units) e, ap (λ (x : UnitOption). x.latency) e)
]

priced_option : (o : UnitOption) (q : ℕ) → q ≤ 1000000 → is_option 8 o ≡ true
    → is_option 8 (record o { price = q }) ≡ true
priced_option o q few is =
    let p = and_parts (is_between 1 8 o.units && is_between 1 64 o.latency) (nat_le o.price 1000000) is in
    and_from (is_between 1 8 o.units && is_between 1 64 o.latency) (nat_le q 1000000) p.0 (le-leb q 1000000 few)

other_within : (unit : UnitId) (q : ℕ) (config : Configuration) → q ≤ 1000000 → IsWithinLimits config
    → IsWithinLimits (other_price unit q config)
other_within unit q config few good =
    let o : UnitOption = record (option_of config unit) { price = q } in
    let low : place_of_unit unit < length config.units = rw good.kinds (unit_low unit) in
    record {
      pools = good.pools;
      stations = good.stations;
      kinds = length-set config.units (place_of_unit unit) o ∙ good.kinds;
      units = All-set (λ x. is_option 8 x ≡ true) config.units (place_of_unit unit) o
          (priced_option (option_of config unit) q few (good.units (place_of_unit unit) plain_option low)) good.units;
      branch_unit = (option_is unit Bru q config good.kinds).0 ∙ good.branch_unit;
      buses = good.buses;
      width = good.width;
    }

part_same : (unit : UnitId) (q : ℕ) (config : Configuration) (part : Part) → IsWithinLimits config
    → count_of (other_price unit q config) part ≡ count_of config part
part_same unit q config (Stations pool) good = refl
part_same unit q config (Units u) good = (option_is unit u q config good.kinds).0
part_same unit q config Buses good = refl
part_same unit q config Width good = refl

other_serves : (unit : UnitId) (q : ℕ) (config : Configuration) (h : List Done) → IsWithinLimits config
    → Serves config (other_price unit q config) h
other_serves unit q config h good = record {
  parts = λ part. inl (part_same unit q config part good);
  latencies = λ u. inl (option_is unit u q config good.kinds).1;
}

other_total : (unit : UnitId) (q : ℕ) (config : Configuration) (image : Loaded) → q ≤ 1000000
    → IsWithinLimits config → total (other_price unit q config) image ≡ total config image
unfolding run_of
other_total unit q config image few good =
    let steps = steps_from 262144 (start_of image) in
    ap greatest_end (serves_history config (other_price unit q config) steps good (other_within unit q config few good)
    (other_serves unit q config (history config steps) good))

sums_same : (f g : Workload → ℕ) (ps : List Workload) → ((p : Workload) → f p ≡ g p) → sum_by f ps ≡ sum_by g ps
sums_same f g [] each = refl
sums_same f g (p ∷ ps) each =
    let a = sum_by-cons f p ps in
    let b = sum_by-cons g p ps in
    let e = each p in
    let ih = sums_same f g ps each in
    omega arith

pub other_cycles : (unit : UnitId) (q : ℕ) (programs : List Workload) (config : Configuration) → q ≤ 1000000
    → IsWithinLimits config → cycles_on programs (other_price unit q config) ≡ cycles_on programs config
unfolding cycles_on
other_cycles unit q programs config few good =
    sums_same (λ p. p.weight * cycles_of_run (other_price unit q config) p)
    (λ p. p.weight * cycles_of_run config p) programs
    (λ p. ap (λ (n : ℕ). p.weight * n) (other_total unit q config p.image few good))
