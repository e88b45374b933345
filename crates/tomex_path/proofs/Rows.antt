-- The paths of short runs, computed by the definition itself.
use Rattle.std.proofs.Common.{ℕ, ◌≡◌, true, false, refl, List, [], ◌∷◌, Option, Some, None}
use Rattle.tomex_rvdec.specs.declared.op.Op.TheVariants.{Sw, Sh, Lb, Lh, Lw, Lbu, Add, Xor, Beq}
use Rattle.tomex_rvdec.specs.declared.pool.PoolId.TheVariants as pools
use Rattle.tomex_rvdec.specs.declared.pool.UnitId.{UnitId}
use Rattle.tomex_rvdec.specs.declared.pool.UnitId.TheVariants as units
use Rattle.tomex_rvexec.specs.declared.step.Step.{Step}
use Rattle.tomex_config.specs.Configuration.{Configuration, config_of, with_option}
use Rattle.tomex_config.specs.declared.part.Part.TheVariants.{Buses, Stations, Units, Width}
use Rattle.tomex_timing.specs.History.{greatest_end}
use Rattle.tomex_timing.specs.Search.{history, times_of}
use Rattle.tomex_timing.proofs.Programs.{addi, mul, ebreak, step, instr, two_alu_stations, with_latency}
use Rattle.tomex_config.specs.declared.config.UnitOption.{UnitOption}
use Rattle.tomex_path.specs.declared.link.Link.{Link}
use Rattle.tomex_path.specs.declared.reason.Reason.{Reason}
use Rattle.tomex_path.specs.declared.reason.Reason.TheVariants.{Address, Branch, For, Memory, Operand, Order}
use Rattle.tomex_path.specs.Bound.{binds, operating, saved_by_width}
use Rattle.tomex_path.specs.Path.{path_of}

-- addi x8,x0,256; addi x1,x0,768; mul x3,x1,x1; sw x1,0(x8); lb x2,1(x8); add x4,x3,x2; ebreak
abbrev followed : List Step
followed = addi 0 8 0 256 0 ∷ addi 4 1 0 768 0 ∷ mul 8 3 1 1 768 768 ∷ step 12 (instr Sw 0 8 1 0) 256 768
    ∷ step 16 (instr Lb 2 8 0 1) 256 0 ∷ step 20 (instr Add 4 3 2 0) 589824 3 ∷ ebreak 24 ∷ []

abbrev five_for_mul : Configuration
five_for_mul = with_latency units.Mem (with_latency units.Mul two_alu_stations 5) 2

abbrev on : ℕ → Reason → ℕ → ℕ → ℕ → Option UnitId → Link
on step reason waits from to operation =
    record { step = step; reason = reason; waits = waits; from = from; to = to; operation = operation }

-- the last sum waits for the load's result, that for the bus, which the product's has
followed_path : path_of five_for_mul (history five_for_mul followed)
    ≡ on 1 Order 0 1 1 None ∷ on 2 (For Width) 1 2 4 (Some units.Alu) ∷ on 3 Operand 1 5 10 (Some units.Mul)
    ∷ on 5 (For Buses) 1 11 11 None ∷ on 6 Operand 5 12 13 (Some units.Alu) ∷ []
unfolding times_of
followed_path = refl

abbrev of : ℕ → ℕ → UnitOption
of units latency = record { units = units; latency = latency; price = 0 }

-- addi x8,x0,256; sh x4,2(x8); sh x2,0(x8); lb x4,2(x8); lw x2,0(x8); ebreak
abbrev overlapping : List Step
overlapping = addi 0 8 0 256 0 ∷ step 4 (instr Sh 0 8 4 2) 256 0 ∷ step 8 (instr Sh 0 8 2 0) 256 0
    ∷ step 12 (instr Lb 4 8 0 2) 256 0 ∷ step 16 (instr Lw 2 8 0 0) 256 0 ∷ ebreak 20 ∷ []

abbrev one_port : Configuration
one_port = config_of (8 ∷ 2 ∷ 8 ∷ 2 ∷ 8 ∷ 1 ∷ []) (of 2 2 ∷ of 2 5 ∷ of 1 1 ∷ of 1 5 ∷ of 1 5 ∷ []) 3 4

-- addresses are computed in order, and the last load waits for the store to its first bytes
overlapping_path : path_of one_port (history one_port overlapping)
    ≡ on 1 Order 0 1 4 (Some units.Alu) ∷ on 2 Operand 3 5 5 None ∷ on 3 Address 2 6 11 (Some units.Mem)
    ∷ on 5 Memory 3 12 17 (Some units.Mem) ∷ []
unfolding times_of
overlapping_path = refl

abbrev three_units : Configuration
three_units = config_of (8 ∷ 8 ∷ 8 ∷ 8 ∷ 8 ∷ 2 ∷ []) (of 3 2 ∷ of 2 1 ∷ of 2 1 ∷ of 2 2 ∷ of 1 1 ∷ []) 2 4

-- it binds each machine, and with a latency of 4 the two accesses on it take two cycles less
overlapping_binds : binds three_units (path_of one_port (history one_port overlapping)) ≡ true
unfolding times_of
overlapping_binds = refl

faster_accesses : greatest_end (history (with_latency units.Mem one_port 4) overlapping) ≡ 15
unfolding times_of
faster_accesses = refl

-- addi x8,x0,256; addi x2,x2,5; xor x1,x3,x4; addi x1,x0,8; addi x2,x0,4; ebreak
abbrev sums : List Step
sums = addi 0 8 0 256 0 ∷ addi 4 2 2 5 0 ∷ step 8 (instr Xor 1 3 4 0) 0 0 ∷ addi 12 1 0 8 0 ∷ addi 16 2 0 4 0
    ∷ ebreak 20 ∷ []

-- four issue in a cycle, of which three start in the next
sums_path : path_of three_units (history three_units sums)
    ≡ on 1 Order 0 1 1 None ∷ on 3 Order 0 2 2 None ∷ on 4 (For (Units units.Alu)) 1 3 5 (Some units.Alu)
    ∷ on 5 (For Buses) 1 6 6 None ∷ []
unfolding times_of
sums_path = refl

-- it binds no machine
sums_binds : binds three_units (path_of three_units (history three_units sums)) ≡ false
unfolding times_of
sums_binds = refl

abbrev fast_sums : Configuration
fast_sums = with_option units.Alu three_units (of 3 1)

-- With operations of one cycle the third sum starts and finishes in its link's only cycle, for whose unit the fourth
-- waits: that operation is on the path too.
fast_sums_path : path_of fast_sums (history fast_sums sums)
    ≡ on 1 Order 0 1 1 None ∷ on 3 Order 0 2 2 (Some units.Alu) ∷ on 4 (For (Units units.Alu)) 1 3 4 (Some units.Alu)
    ∷ on 5 (For Buses) 1 5 5 None ∷ []
unfolding times_of
fast_sums_path = refl

-- addi x8,x0,256; lh x1,2(x8); sh x2,0(x8); lbu x3,6(x8); beq x1,x0,4; lb x2,0(x8); lb x2,0(x8); ebreak
abbrev branching : List Step
branching = addi 0 8 0 256 0 ∷ step 4 (instr Lh 1 8 0 2) 256 0 ∷ step 8 (instr Sh 0 8 2 0) 256 0
    ∷ step 12 (instr Lbu 3 8 0 6) 256 0 ∷ step 16 (instr Beq 0 1 0 4) 0 0 ∷ step 20 (instr Lb 2 8 0 0) 256 0
    ∷ step 24 (instr Lb 2 8 0 0) 256 0 ∷ ebreak 28 ∷ []

abbrev one_load : Configuration
one_load = config_of (4 ∷ 1 ∷ 2 ∷ 1 ∷ 8 ∷ 8 ∷ []) (of 2 1 ∷ of 2 2 ∷ of 2 1 ∷ of 2 1 ∷ of 1 3 ∷ []) 2 4

-- loads wait for the one load station, and what comes after the branch for its finish
branching_path : path_of one_load (history one_load branching)
    ≡ on 1 Order 0 1 3 (Some units.Alu) ∷ on 2 Operand 2 4 6 (Some units.Mem)
    ∷ on 4 (For (Stations pools.Load)) 6 7 7 None ∷ on 5 Order 0 8 10 (Some units.Bru)
    ∷ on 6 Branch 4 11 14 (Some units.Mem) ∷ on 7 (For (Stations pools.Load)) 4 15 18 (Some units.Mem) ∷ []
unfolding times_of
branching_path = refl

-- it binds: the pool of loads has one station
branching_binds : binds one_load (path_of one_load (history one_load branching)) ≡ true
unfolding times_of
branching_binds = refl

-- one sum, three accesses, and a branch, of latency 3
branching_operating : operating one_load (path_of one_load (history one_load branching)) ≡ 7
unfolding times_of
branching_operating = refl

-- with accesses of latency 2 the run takes at least three cycles more than 18, one for each on the path
slower_accesses : greatest_end (history (with_option units.Mem one_load (of 2 2)) branching) ≡ 22
unfolding times_of
slower_accesses = refl

-- with more of each part except stations for loads it takes no fewer
abbrev more_parts : Configuration
more_parts = config_of (8 ∷ 8 ∷ 8 ∷ 1 ∷ 8 ∷ 8 ∷ []) (of 8 1 ∷ of 8 2 ∷ of 8 1 ∷ of 8 1 ∷ of 1 3 ∷ []) 8 4

branching_with_more : greatest_end (history more_parts branching) ≡ 18
unfolding times_of
branching_with_more = refl

-- addi x1,x0,1; addi x2,x0,2; ebreak
abbrev pair : List Step
pair = addi 0 1 0 1 0 ∷ addi 4 2 0 2 0 ∷ ebreak 8 ∷ []

abbrev narrow : Configuration
narrow = config_of (2 ∷ 1 ∷ 1 ∷ 1 ∷ 1 ∷ 1 ∷ []) (of 2 1 ∷ of 1 1 ∷ of 1 1 ∷ of 1 1 ∷ of 1 1 ∷ []) 2 1

abbrev wide : Configuration
wide = config_of (2 ∷ 1 ∷ 1 ∷ 1 ∷ 1 ∷ 1 ∷ []) (of 2 1 ∷ of 1 1 ∷ of 1 1 ∷ of 1 1 ∷ of 1 1 ∷ []) 2 2

-- the second sum waits for the width, and a width of 2 saves that cycle
pair_path : path_of narrow (history narrow pair) ≡ on 1 Order 0 1 1 None ∷ on 2 (For Width) 1 2 4 (Some units.Alu) ∷ []
unfolding times_of
pair_path = refl

pair_saved : saved_by_width narrow wide (path_of narrow (history narrow pair)) ≡ 1
unfolding times_of
pair_saved = refl

pair_wide : greatest_end (history wide pair) ≡ 3
unfolding times_of
pair_wide = refl
