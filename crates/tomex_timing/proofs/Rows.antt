-- The times of short runs, computed by the definition itself.
use Rattle.std.proofs.Common.{ℕ, ◌≡◌, refl, [], ◌∷◌, Some, None}
use Rattle.tomex_rvdec.specs.declared.pool.PoolId.TheVariants as pools
use Rattle.tomex_rvdec.specs.declared.pool.UnitId.TheVariants as units
use Rattle.tomex_config.specs.Configuration.{Configuration, plain, with_stations, with_option, with_buses, with_width}
use Rattle.tomex_timing.specs.declared.times.Times.{Times}
use Rattle.tomex_timing.specs.Search.{times_in, times_of, total_of}
use Rattle.tomex_timing.proofs.Programs.{addi, ebreak, product, two_results, two_readers, overwritten}
use Rattle.tomex_timing.proofs.Programs.{stored_and_loaded, jump_to_product, jump_past, two_loads, two_alu_stations}
use Rattle.tomex_timing.proofs.Programs.{with_latency}

-- issue, start, finish, end and station
abbrev on : ℕ → ℕ → ℕ → ℕ → ℕ → Times
on i s f e n = record { issue = i; address = None; start = s; finish = f; end = e; station = Some n }

-- the times of a load or store, with its address cycle
abbrev accessing : ℕ → ℕ → ℕ → ℕ → ℕ → ℕ → Times
accessing i a s f e n = record { issue = i; address = Some a; start = s; finish = f; end = e; station = Some n }

-- the times of an instruction that uses no station
abbrev at_once : ℕ → Times
at_once t = record { issue = t; address = None; start = t; finish = t; end = t; station = None }

-- two ALU stations, and a latency of 3 for products
abbrev three_for_mul : Configuration
three_for_mul = with_latency units.Mul two_alu_stations 3

-- two stations for the two sums, and one for both
product_times : (times_in three_for_mul product ≡ on 1 2 2 3 0 ∷ on 2 3 3 4 1 ∷ on 3 5 7 8 0 ∷ at_once 4 ∷ [])
    × (times_in (with_latency units.Mul plain 3) product ≡ on 1 2 2 3 0 ∷ on 4 5 5 6 0 ∷ on 5 7 9 10 0 ∷ at_once 6 ∷ [])
    × (total_of (times_in three_for_mul product) ≡ 8)
unfolding times_of
product_times = (refl, refl, refl)

-- both results are ready for cycle 4: the older one has the bus, or each has one
results_times : (times_in (with_latency units.Mul plain 2) two_results ≡ on 1 2 3 4 0 ∷ on 2 3 3 5 0 ∷ at_once 3 ∷ [])
    × (times_in (with_buses (with_latency units.Mul plain 2) 2) two_results ≡ on 1 2 3 4 0 ∷ on 2 3 3 4 0
    ∷ at_once 3 ∷ [])
unfolding times_of
results_times = (refl, refl)

-- both readers wait for the product: the older one has the unit, or each has one
readers_times : (times_in (with_buses three_for_mul 2) two_readers ≡ on 1 2 4 5 0 ∷ on 2 6 6 7 0 ∷ on 3 7 7 8 1
    ∷ at_once 4 ∷ [])
    × (times_in (with_option units.Alu (with_buses three_for_mul 2) (record { units = 2; latency = 1; price = 0 }))
    two_readers ≡ on 1 2 4 5 0 ∷ on 2 6 6 7 0 ∷ on 3 6 6 7 1 ∷ at_once 4 ∷ [])
unfolding times_of
readers_times = (refl, refl)

overwritten_times : times_in (with_latency units.Mul plain 10) overwritten ≡ on 1 2 11 12 0 ∷ on 2 3 3 4 0 ∷ at_once 3
    ∷ []
unfolding times_of
overwritten_times = refl

-- the load's byte is one of the store's four, though not their first; or it is the byte after them
byte_times : (times_in (with_latency units.Mem two_alu_stations 2) (stored_and_loaded 1) ≡ on 1 2 2 3 0
    ∷ on 2 3 3 4 1 ∷ accessing 3 4 5 6 6 0 ∷ accessing 4 5 7 8 9 0 ∷ at_once 5 ∷ [])
    × (times_in (with_latency units.Mem two_alu_stations 2) (stored_and_loaded 4) ≡ on 1 2 2 3 0 ∷ on 2 3 3 4 1
    ∷ accessing 3 4 5 6 6 0 ∷ accessing 4 5 6 7 8 0 ∷ at_once 5 ∷ [])
unfolding times_of
byte_times = (refl, refl)

-- nothing issues past the jump by a register before it has finished; JAL is no branch
jump_times : (times_in three_for_mul jump_to_product ≡ on 1 2 2 3 0 ∷ on 2 4 6 7 0 ∷ on 3 8 8 8 0 ∷ at_once 9 ∷ [])
    × (times_in three_for_mul jump_past ≡ on 1 2 2 3 0 ∷ on 2 4 6 7 0 ∷ on 3 4 4 4 1 ∷ at_once 4 ∷ [])
unfolding times_of
jump_times = (refl, refl)

-- addi x0,x0,0 has no destination, and takes no bus
short_times : (times_in plain (addi 0 0 0 0 0 ∷ ebreak 4 ∷ []) ≡ on 1 2 2 2 0 ∷ at_once 2 ∷ [])
    × (times_in plain (ebreak 0 ∷ []) ≡ at_once 1 ∷ [])
unfolding times_of
short_times = (refl, refl)

-- two loads of one byte don't wait for each other, unless for a station
loads_times : (times_in (with_latency units.Mem (with_stations pools.Load plain 2) 2) two_loads ≡ on 1 2 2 3 0
    ∷ accessing 2 4 5 6 7 0 ∷ accessing 3 5 6 7 8 1 ∷ at_once 4 ∷ [])
    × (times_in (with_latency units.Mem plain 2) two_loads ≡ on 1 2 2 3 0 ∷ accessing 2 4 5 6 7 0
    ∷ accessing 8 9 10 11 12 0 ∷ at_once 9 ∷ [])
unfolding times_of
loads_times = (refl, refl)

-- two alu stations and units, mul with latency 3, two buses
abbrev two_of_alu : Configuration
two_of_alu = with_buses (with_option units.Alu three_for_mul
    (record { units = 2; latency = 1; price = 0 })) 2

-- from a width of two on both sums issue in one cycle, to two stations; with four the product and EBREAK do too
product_times_by_width : (times_in two_of_alu product ≡ on 1 2 2 3 0 ∷ on 2 3 3 4 1 ∷ on 3 5 7 8 0 ∷ at_once 4 ∷ [])
    × (times_in (with_width two_of_alu 2) product ≡ on 1 2 2 3 0 ∷ on 1 2 2 3 1 ∷ on 2 4 6 7 0 ∷ at_once 2 ∷ [])
    × (times_in (with_width two_of_alu 4) product ≡ on 1 2 2 3 0 ∷ on 1 2 2 3 1 ∷ on 1 4 6 7 0 ∷ at_once 1 ∷ [])
unfolding times_of
product_times_by_width = (refl, refl, refl)

product_totals_by_width : (total_of (times_in (with_width two_of_alu 2) product) ≡ 7)
    × (total_of (times_in (with_width two_of_alu 4) product) ≡ 7)
unfolding times_of
product_totals_by_width = (refl, refl)

-- one station holds the second sum back; the product issues with it
product_times_one_station_width_two : times_in (with_width (with_latency units.Mul plain 3) 2) product ≡ on 1 2 2 3 0
    ∷ on 4 5 5 6 0 ∷ on 4 7 9 10 0 ∷ at_once 5 ∷ []
unfolding times_of
product_times_one_station_width_two = refl

-- however wide the machine is, what comes after the jump by a register waits; what comes after JAL issues with it
jump_times_by_width : (times_in (with_width three_for_mul 4) jump_to_product ≡ on 1 2 2 3 0 ∷ on 1 4 6 7 0
    ∷ on 1 8 8 8 0 ∷ at_once 9 ∷ [])
    × (times_in (with_width three_for_mul 4) jump_past ≡ on 1 2 2 3 0 ∷ on 1 4 6 7 0 ∷ on 1 3 3 3 1 ∷ at_once 1 ∷ [])
unfolding times_of
jump_times_by_width = (refl, refl)
