-- A prologue uses stations and units only of alu and bru, so it doesn't matter how many of the others there are.
use Rattle.std.proofs.Common.{ℕ, zero, suc, ◌≤◌, ◌≡◌, ◌∙◌, ◌⊎◌, arith, refl, sym, ap, subst, false, inl, inr}
use Rattle.std.proofs.Common.{List, [], ◌∷◌, ◌++◌, Some, map, reverse}
use Rattle.tomex_rvdec.specs.declared.pool.PoolId.{PoolId}
use Rattle.tomex_rvdec.specs.declared.pool.PoolId.TheVariants as pools
use Rattle.tomex_rvdec.specs.declared.pool.UnitId.{UnitId}
use Rattle.tomex_rvdec.specs.declared.pool.UnitId.TheVariants as units
use Rattle.tomex_rvdec.specs.Operands.{unit_at}
use Rattle.tomex_rvexec.specs.Steps.{is_in, step_pool}
use Rattle.tomex_config.specs.Configuration.{Configuration, option_of}
use Rattle.tomex_config.specs.Parts.{count_of}
use Rattle.tomex_config.specs.declared.part.Part.{Part}
use Rattle.tomex_config.specs.declared.part.Part.TheVariants.{Buses, Stations, Units, Width}
use Rattle.tomex_timing.specs.declared.times.Done.{Done}
use Rattle.tomex_timing.specs.History.{is_of}
use Rattle.tomex_timing.specs.Needs.{Serves, peak, stalls}
use Rattle.tomex_timing.specs.Search.{history}
use Rattle.tomex_timing.proofs.SameTimes.{serves_runs}
use Rattle.tomex_drained.specs.Parts.{AreSameToPrologues, SameMachinesTakeTheSame, hook, loads, pair, prologue}
use Rattle.tomex_drained.proofs.Joined.{history_joined}

-- each step has a station of alu or bru
abbrev UsesAluAndBru : List Done → Type 0
UsesAluAndBru [] = Unit {0}
UsesAluAndBru (d ∷ older) =
    ((step_pool d.step ≡ Some pools.Alu) ⊎ (step_pool d.step ≡ Some pools.Bru)) × UsesAluAndBru older

loads_use : (config : Configuration) (n : ℕ) → UsesAluAndBru (history config (loads n))
loads_use config zero = tt
loads_use config (suc n) =
    subst UsesAluAndBru (sym (history_joined config (loads n) (pair (suc n))))
    (inl refl, (inl refl, loads_use config n))

prologue_uses : (config : Configuration) (n : ℕ) → UsesAluAndBru (history config (loads n ++ hook))
prologue_uses config n =
    subst UsesAluAndBru (sym (history_joined config (loads n) hook))
    (inr refl, (inl refl, (inl refl, (inl refl, loads_use config n))))

-- no step waits for another pool, or takes any of it
no_pool : (config : Configuration) (pool : PoolId) (h : List Done) → is_in pool (Some pools.Alu) ≡ false
    → is_in pool (Some pools.Bru) ≡ false → UsesAluAndBru h
    → (stalls config (Stations pool) h ≡ 0) × (peak (Stations pool) h ≡ 0)
no_pool config pool [] a b uses = (refl, refl)
no_pool config pool (d ∷ older) a b uses =
    let rest = no_pool config pool older a b uses.1 in
    let e : is_in pool (step_pool d.step) ≡ false = elim uses.0 [
      | inl x ↦ ap (is_in pool) x ∙ a
      | inr x ↦ ap (is_in pool) x ∙ b
    ] in
    rw e (omega (arith, rest.0), omega (arith, rest.1))

-- nor of another kind of unit
no_unit : (config : Configuration) (unit : UnitId) (h : List Done) → is_of unit (Some units.Alu) ≡ false
    → is_of unit (Some units.Bru) ≡ false → UsesAluAndBru h
    → (stalls config (Units unit) h ≡ 0) × (peak (Units unit) h ≡ 0)
no_unit config unit [] a b uses = (refl, refl)
no_unit config unit (d ∷ older) a b uses =
    let rest = no_unit config unit older a b uses.1 in
    let e : is_of unit (unit_at (step_pool d.step)) ≡ false = elim uses.0 [
      | inl x ↦ ap (λ p. is_of unit (unit_at p)) x ∙ a
      | inr x ↦ ap (λ p. is_of unit (unit_at p)) x ∙ b
    ] in
    rw e (omega (arith, rest.0), omega (arith, rest.1))

serves : (a b : Configuration) (h : List Done) → UsesAluAndBru h → AreSameToPrologues a b → Serves b a h
serves a b h uses same = record { parts = part; latencies = latency }
  where
    pool_too : (pool : PoolId) → is_in pool (Some pools.Alu) ≡ false → is_in pool (Some pools.Bru) ≡ false
        → (stalls b (Stations pool) h ≡ 0) × (peak (Stations pool) h ≤ count_of a (Stations pool))
    pool_too pool e f = let k = no_pool b pool h e f uses in (k.0, omega (arith, k.1))

    unit_too : (unit : UnitId) → is_of unit (Some units.Alu) ≡ false → is_of unit (Some units.Bru) ≡ false
        → (stalls b (Units unit) h ≡ 0) × (peak (Units unit) h ≤ count_of a (Units unit))
    unit_too unit e f = let k = no_unit b unit h e f uses in (k.0, omega (arith, k.1))

    part : (part : Part) → (count_of a part ≡ count_of b part)
        ⊎ ((stalls b part h ≡ 0) × (peak part h ≤ count_of a part))
    part (Stations pools.Alu) = inl same.alu_stations
    part (Stations pools.Bru) = inl same.bru_stations
    part (Stations pool) = inr (pool_too pool refl refl)
    part (Units units.Alu) = inl same.alu_units
    part (Units units.Bru) = inl same.bru_units
    part (Units unit) = inr (unit_too unit refl refl)
    part Buses = inl same.buses
    part Width = inl same.width

    latency : (unit : UnitId)
        → ((option_of a unit).latency ≡ (option_of b unit).latency) ⊎ (peak (Units unit) h ≡ 0)
    latency units.Alu = inl same.alu_latency
    latency units.Bru = inl same.bru_latency
    latency unit = inr (no_unit b unit h refl refl uses).1

pub same_machines : SameMachinesTakeTheSame
same_machines a b good_a good_b same =
    let uses : UsesAluAndBru (history b prologue) = prologue_uses b 30 in
    let e = serves_runs b a prologue good_b good_a (serves a b (history b prologue) uses same) in
    ap (λ h. map (λ d. d.at) (reverse h)) e.0
