-- The cycles of short runs' steps, computed by the definitions themselves.
use Rattle.std.proofs.Common.{ℕ, ◌≡◌, refl, List, [], ◌∷◌, Option, Some, None, reverse}
use Rattle.tomex_rvdec.specs.declared.pool.UnitId.TheVariants as units
use Rattle.tomex_config.specs.Configuration.{latency_of, plain}
use Rattle.tomex_timing.specs.Search.{history, times_of}
use Rattle.tomex_timing.proofs.Programs.{jump_to_product, product, with_latency}
use Rattle.tomex_stretches.specs.Cycles.{floor_cycles, own_cycles}

-- the second sum waits for the only station, and EBREAK has all that are left
product_cycles : reverse (own_cycles (history (with_latency units.Mul plain 3) product)) ≡ 3 ∷ 1 ∷ 1 ∷ 5 ∷ []
unfolding times_of
product_cycles = refl

abbrev all_one : List (Option ℕ)
all_one = None ∷ None ∷ None ∷ None ∷ []

-- youngest first: the last two have a key of their own
abbrev two_and_two : List (Option ℕ)
two_and_two = Some 0 ∷ Some 0 ∷ None ∷ None ∷ []

-- in one stretch an issue in each cycle
product_floors : reverse (floor_cycles (latency_of (with_latency units.Mul plain 3)) 1 (reverse product) all_one)
    ≡ 1 ∷ 1 ∷ 1 ∷ 5 ∷ []
product_floors = refl

-- in a stretch of its own the product doesn't wait for its operands
product_cut : reverse (floor_cycles (latency_of (with_latency units.Mul plain 3)) 1 (reverse product) two_and_two)
    ≡ 1 ∷ 1 ∷ 1 ∷ 4 ∷ []
product_cut = refl

abbrev last_alone : List (Option ℕ)
last_alone = Some 0 ∷ None ∷ None ∷ None ∷ []

-- the step after a stretch waits for the stretch's jump
jump_cut : reverse (floor_cycles (latency_of (with_latency units.Mul plain 3)) 1 (reverse jump_to_product) last_alone)
    ≡ 1 ∷ 1 ∷ 6 ∷ 1 ∷ []
jump_cut = refl
