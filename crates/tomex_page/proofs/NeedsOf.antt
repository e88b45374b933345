-- A history has only one value of needs.
use Rattle.std.proofs.Common.{◌≡◌, refl, arith, ℕ, List, [], ◌∷◌, get_or, length}
use Rattle.tomex_config.specs.Configuration.{Configuration}
use Rattle.tomex_rvdec.specs.declared.pool.PoolId.TheVariants as pools
use Rattle.tomex_rvdec.specs.declared.pool.UnitId.TheVariants as units
use Rattle.tomex_study.specs.Program.{Workload, steps_of}
use Rattle.tomex_timing.specs.Needs.{AreNeeds, no_need}
use Rattle.tomex_timing.specs.Search.{history}
use Rattle.tomex_timing.specs.declared.needs.Needs.{Needs}
use Rattle.tomex_timing.specs.declared.need.Need.{Need}
use Rattle.tomex_config.specs.declared.part.Part.TheVariants.{Stations, Units, Buses, Width}
use Rattle.tomex_timing.specs.declared.times.Done.{Done}
use Rattle.tomex_page.specs.Runs.{needs_in, needs_on}

six_are : (xs : List Need) {a b c d e f : Need} → length xs ≡ 6 → get_or xs 0 no_need ≡ a → get_or xs 1 no_need ≡ b
    → get_or xs 2 no_need ≡ c → get_or xs 3 no_need ≡ d → get_or xs 4 no_need ≡ e → get_or xs 5 no_need ≡ f
    → xs ≡ a ∷ b ∷ c ∷ d ∷ e ∷ f ∷ []
six_are (x0 ∷ x1 ∷ x2 ∷ x3 ∷ x4 ∷ x5 ∷ []) long e0 e1 e2 e3 e4 e5 = rw (e0, e1, e2, e3, e4, e5) refl
six_are [] long e0 e1 e2 e3 e4 e5 = absurd (omega (arith, long))
six_are (x0 ∷ []) long e0 e1 e2 e3 e4 e5 = absurd (omega (arith, long))
six_are (x0 ∷ x1 ∷ []) long e0 e1 e2 e3 e4 e5 = absurd (omega (arith, long))
six_are (x0 ∷ x1 ∷ x2 ∷ []) long e0 e1 e2 e3 e4 e5 = absurd (omega (arith, long))
six_are (x0 ∷ x1 ∷ x2 ∷ x3 ∷ []) long e0 e1 e2 e3 e4 e5 = absurd (omega (arith, long))
six_are (x0 ∷ x1 ∷ x2 ∷ x3 ∷ x4 ∷ []) long e0 e1 e2 e3 e4 e5 = absurd (omega (arith, long))
six_are (x0 ∷ x1 ∷ x2 ∷ x3 ∷ x4 ∷ x5 ∷ x6 ∷ xs) long e0 e1 e2 e3 e4 e5 = absurd (omega (arith, long))

five_are : (xs : List Need) {a b c d e : Need} → length xs ≡ 5 → get_or xs 0 no_need ≡ a → get_or xs 1 no_need ≡ b
    → get_or xs 2 no_need ≡ c → get_or xs 3 no_need ≡ d → get_or xs 4 no_need ≡ e
    → xs ≡ a ∷ b ∷ c ∷ d ∷ e ∷ []
five_are (x0 ∷ x1 ∷ x2 ∷ x3 ∷ x4 ∷ []) long e0 e1 e2 e3 e4 = rw (e0, e1, e2, e3, e4) refl
five_are [] long e0 e1 e2 e3 e4 = absurd (omega (arith, long))
five_are (x0 ∷ []) long e0 e1 e2 e3 e4 = absurd (omega (arith, long))
five_are (x0 ∷ x1 ∷ []) long e0 e1 e2 e3 e4 = absurd (omega (arith, long))
five_are (x0 ∷ x1 ∷ x2 ∷ []) long e0 e1 e2 e3 e4 = absurd (omega (arith, long))
five_are (x0 ∷ x1 ∷ x2 ∷ x3 ∷ []) long e0 e1 e2 e3 e4 = absurd (omega (arith, long))
five_are (x0 ∷ x1 ∷ x2 ∷ x3 ∷ x4 ∷ x5 ∷ xs) long e0 e1 e2 e3 e4 = absurd (omega (arith, long))

parts_are : (config : Configuration) (h : List Done) {stations us : List Need} {buses width : Need}
    {branch operand address memory last_issue total : ℕ}
    → stations ≡ (needs_in config h).stations → us ≡ (needs_in config h).units → buses ≡ (needs_in config h).buses
    → width ≡ (needs_in config h).width → branch ≡ (needs_in config h).branch
    → operand ≡ (needs_in config h).operand → address ≡ (needs_in config h).address
    → memory ≡ (needs_in config h).memory → last_issue ≡ (needs_in config h).last_issue
    → total ≡ (needs_in config h).total
    → record {
      stations = stations;
      units = us;
      buses = buses;
      width = width;
      branch = branch;
      operand = operand;
      address = address;
      memory = memory;
      last_issue = last_issue;
      total = total;
    } ≡ needs_in config h
parts_are config h e0 e1 e2 e3 e4 e5 e6 e7 e8 e9 =
    rw (e0, e1, e2, e3, e4, e5, e6, e7, e8, e9) refl

needs_are : (config : Configuration) (h : List Done) (n : Needs) → AreNeeds config h n → n ≡ needs_in config h
needs_are config h n are =
    parts_are config h
    (six_are n.stations are.pools (are.parts (Stations pools.Alu)) (are.parts (Stations pools.Mul))
    (are.parts (Stations pools.Div)) (are.parts (Stations pools.Load)) (are.parts (Stations pools.Store))
    (are.parts (Stations pools.Bru)))
    (five_are n.units are.kinds (are.parts (Units units.Alu)) (are.parts (Units units.Mul))
    (are.parts (Units units.Div)) (are.parts (Units units.Mem)) (are.parts (Units units.Bru)))
    (are.parts Buses) (are.parts Width) are.branch are.operand are.address are.memory are.last_issue are.total

-- so has a program on a configuration
pub needs_of_run : (config : Configuration) (p : Workload) (n : Needs)
    → AreNeeds config (history config (steps_of p)) n → n ≡ needs_on config p
unfolding needs_on
needs_of_run config p n are = needs_are config (history config (steps_of p)) n are
