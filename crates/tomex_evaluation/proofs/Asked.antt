-- The demands of a history are its peaks, and which parts have stalls: nothing else of it.
use Rattle.std.proofs.Common.{ℕ, zero, suc, ◌<◌, ◌≡◌, ◌==◌, ◌∙◌, arith, refl, ap, List, [], ◌∷◌, get_or, length}
use Rattle.std.proofs.lemmas.List.{ext_get_or}
use Rattle.tomex_rvdec.specs.Places.{place_of_pool, place_of_unit}
use Rattle.tomex_rvdec.specs.declared.pool.PoolId.{PoolId}
use Rattle.tomex_rvdec.specs.declared.pool.PoolId.TheVariants as pools
use Rattle.tomex_rvdec.specs.declared.pool.UnitId.{UnitId}
use Rattle.tomex_rvdec.specs.declared.pool.UnitId.TheVariants as units
use Rattle.tomex_config.specs.Configuration.{Configuration}
use Rattle.tomex_config.specs.declared.part.Part.{Part}
use Rattle.tomex_config.specs.declared.part.Part.TheVariants.{Stations, Units, Buses, Width}
use Rattle.tomex_timing.specs.declared.demands.Demands.{Demands}
use Rattle.tomex_timing.specs.declared.need.Need.{Need}
use Rattle.tomex_timing.specs.declared.needs.Needs.{Needs}
use Rattle.tomex_timing.specs.declared.times.Done.{Done}
use Rattle.tomex_timing.specs.Demands.{demand_from, demands_of}
use Rattle.tomex_timing.specs.History.{greatest_end, last_issue}
use Rattle.tomex_timing.specs.Needs.{AreNeeds, need_of, no_need, peak, stalls, stalls_by}
use Rattle.tomex_timing.specs.Demands.{with_total}
use Rattle.tomex_states.specs.States.{AreNoted}

-- A list with a need for each pool, and one with a need for each kind of unit.
pools_are : (f : PoolId → Need) (xs : List Need) → length xs ≡ 6
    → ((pool : PoolId) → get_or xs (place_of_pool pool) no_need ≡ f pool)
    → xs ≡ f pools.Alu ∷ f pools.Mul ∷ f pools.Div ∷ f pools.Load ∷ f pools.Store ∷ f pools.Bru ∷ []
pools_are f xs long at = ext_get_or no_need xs _ long at_place
  where
    at_place : (i : ℕ) → i < length xs → get_or xs i no_need
        ≡ get_or (f pools.Alu ∷ f pools.Mul ∷ f pools.Div ∷ f pools.Load ∷ f pools.Store ∷ f pools.Bru ∷ []) i no_need
    at_place zero l = at pools.Alu
    at_place (suc zero) l = at pools.Mul
    at_place (suc (suc zero)) l = at pools.Div
    at_place (suc (suc (suc zero))) l = at pools.Load
    at_place (suc (suc (suc (suc zero)))) l = at pools.Store
    at_place (suc (suc (suc (suc (suc zero))))) l = at pools.Bru
    at_place (suc (suc (suc (suc (suc (suc i)))))) l = absurd (omega (arith, long, l))

units_are : (f : UnitId → Need) (xs : List Need) → length xs ≡ 5
    → ((unit : UnitId) → get_or xs (place_of_unit unit) no_need ≡ f unit)
    → xs ≡ f units.Alu ∷ f units.Mul ∷ f units.Div ∷ f units.Mem ∷ f units.Bru ∷ []
units_are f xs long at = ext_get_or no_need xs _ long at_place
  where
    at_place : (i : ℕ) → i < length xs → get_or xs i no_need
        ≡ get_or (f units.Alu ∷ f units.Mul ∷ f units.Div ∷ f units.Mem ∷ f units.Bru ∷ []) i no_need
    at_place zero l = at units.Alu
    at_place (suc zero) l = at units.Mul
    at_place (suc (suc zero)) l = at units.Div
    at_place (suc (suc (suc zero))) l = at units.Mem
    at_place (suc (suc (suc (suc zero)))) l = at units.Bru
    at_place (suc (suc (suc (suc (suc i))))) l = absurd (omega (arith, long, l))

module _ (config : Configuration) where
  -- the need of a part
  abbrev need_at : List Done → Part → Need
  need_at h part = record { peak = peak part h; stalls = stalls config part h }

  abbrev needs_at : List Done → Needs
  needs_at h = record {
    stations = need_at h (Stations pools.Alu) ∷ need_at h (Stations pools.Mul) ∷ need_at h (Stations pools.Div)
        ∷ need_at h (Stations pools.Load) ∷ need_at h (Stations pools.Store) ∷ need_at h (Stations pools.Bru) ∷ [];
    units = need_at h (Units units.Alu) ∷ need_at h (Units units.Mul) ∷ need_at h (Units units.Div)
        ∷ need_at h (Units units.Mem) ∷ need_at h (Units units.Bru) ∷ [];
    buses = need_at h Buses;
    width = need_at h Width;
    branch = stalls_by (λ w. w.branch) config h;
    operand = stalls_by (λ w. w.operand) config h;
    address = stalls_by (λ w. w.address) config h;
    memory = stalls_by (λ w. w.memory) config h;
    last_issue = last_issue h;
    total = greatest_end h;
  }

  part_at : (h : List Done) (part : Part) → need_of (needs_at h) part ≡ need_at h part
  part_at h (Stations pools.Alu) = refl
  part_at h (Stations pools.Mul) = refl
  part_at h (Stations pools.Div) = refl
  part_at h (Stations pools.Load) = refl
  part_at h (Stations pools.Store) = refl
  part_at h (Stations pools.Bru) = refl
  part_at h (Units units.Alu) = refl
  part_at h (Units units.Mul) = refl
  part_at h (Units units.Div) = refl
  part_at h (Units units.Mem) = refl
  part_at h (Units units.Bru) = refl
  part_at h Buses = refl
  part_at h Width = refl

  needs_are : (h : List Done) → AreNeeds config h (needs_at h)
  needs_are h = record {
    parts = part_at h;
    branch = refl;
    operand = refl;
    address = refl;
    memory = refl;
    last_issue = refl;
    total = refl;
    pools = refl;
    kinds = refl;
  }

  module _ (g h : List Done) (peaks : (part : Part) → peak part h ≡ peak part g)
      (waits : (part : Part) → (stalls config part h == 0) ≡ (stalls config part g == 0)) where
    same_demand : (part : Part) → demand_from (need_at g part) ≡ demand_from (need_at h part)
    same_demand part = rw (peaks part, waits part) refl

    same_demands : (needs : Needs) → AreNeeds config g needs
        → with_total (greatest_end h) (demands_of needs) ≡ demands_of (needs_at h)
    same_demands needs are =
        let s = pools_are (λ pool. need_at g (Stations pool)) needs.stations are.pools
        (λ pool. are.parts (Stations pool)) in
        let u = units_are (λ unit. need_at g (Units unit)) needs.units are.kinds (λ unit. are.parts (Units unit)) in
        rw (
          s,
          u,
          are.parts Buses,
          are.parts Width,
          same_demand (Stations pools.Alu),
          same_demand (Stations pools.Mul),
          same_demand (Stations pools.Div),
          same_demand (Stations pools.Load),
          same_demand (Stations pools.Store),
          same_demand (Stations pools.Bru),
          same_demand (Units units.Alu),
          same_demand (Units units.Mul),
          same_demand (Units units.Div),
          same_demand (Units units.Mem),
          same_demand (Units units.Bru),
          same_demand Buses,
          same_demand Width,
        ) refl

    -- a later history with the same peaks, and stalls of the same parts
    pub noted_still : (demands : Demands) → AreNoted config g demands → AreNoted config h demands
    noted_still demands noted = record {
      needs = needs_at h;
      are = needs_are h;
      same = ap (with_total (greatest_end h)) noted.same ∙ same_demands noted.needs noted.are;
    }
