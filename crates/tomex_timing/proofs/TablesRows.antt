-- The tables after some cycles of short runs, computed by the definition itself.
use Rattle.std.proofs.Common.{ℕ, ◌≡◌, refl, List, [], ◌∷◌, Option, Some, None, replicate, slice_set}
use Rattle.tomex_rvdec.specs.Instruction.{Instruction}
use Rattle.tomex_rvdec.specs.declared.op.Op.TheVariants.{Addi, Mul, Sw, Lb, Jalr}
use Rattle.tomex_rvdec.specs.declared.pool.PoolId.{PoolId}
use Rattle.tomex_rvdec.specs.declared.pool.PoolId.TheVariants as pools
use Rattle.tomex_rvdec.specs.declared.pool.UnitId.TheVariants as units
use Rattle.tomex_config.specs.Configuration.{plain, with_width}
use Rattle.tomex_timing.specs.declared.times.Done.{Done}
use Rattle.tomex_timing.specs.Search.{history, times_of}
use Rattle.tomex_timing.specs.declared.tables.Busy.{Busy}
use Rattle.tomex_timing.specs.declared.tables.Field.{Field}
use Rattle.tomex_timing.specs.declared.tables.Field.TheVariants.{Value, Waits, Unread}
use Rattle.tomex_timing.specs.declared.tables.Tag.{Tag}
use Rattle.tomex_timing.specs.Tables.{Tables, tables_of}
use Rattle.tomex_timing.proofs.Programs.{instr, product, overwritten, stored_and_loaded, jump_to_product}
use Rattle.tomex_timing.proofs.Programs.{two_alu_stations, with_latency}

abbrev tag : PoolId → ℕ → Tag
tag pool n = record { pool = pool; number = n }

-- a busy station: its name, its instruction, both operands and the address
abbrev row : PoolId → ℕ → Instruction → Field → Field → Option ℕ → Busy
row pool n instr j k a = record { tag = tag pool n; instr = instr; j = j; k = k; a = a }

abbrev after : ℕ → List Busy → List (Option Tag) → Tables
after cycle busy registers = record { cycle = cycle; busy = busy; registers = registers }

-- no register waits
abbrev no_writers : List (Option Tag)
no_writers = replicate 32 None

abbrev waits_for : ℕ → PoolId → ℕ → List (Option Tag) → List (Option Tag)
waits_for r pool n registers = slice_set registers r (Some (tag pool n))

abbrev product_run : List Done
product_run = history (with_latency units.Mul two_alu_stations 3) product

-- the first operand of the product came with the bus in the cycle of its issue; the product still waits for the second
product_after_3 : tables_of 3 product_run ≡ after 3
    (row pools.Alu 1 (instr Addi 2 0 0 7) (Value 0) Unread None
    ∷ row pools.Mul 0 (instr Mul 3 1 2 0) (Value 5) (Waits (tag pools.Alu 1)) None ∷ [])
    (waits_for 3 pools.Mul 0 (waits_for 2 pools.Alu 1 no_writers))
unfolding times_of
product_after_3 = refl

-- before the first cycle and after the last one nothing is busy
product_around : (tables_of 0 product_run ≡ after 0 [] no_writers) × (tables_of 8 product_run ≡ after 8 [] no_writers)
unfolding times_of
product_around = (refl, refl)

abbrev overwritten_run : List Done
overwritten_run = history (with_latency units.Mul plain 10) overwritten

abbrev overwritten_product : Busy
overwritten_product = row pools.Mul 0 (instr Mul 5 1 2 0) (Value 0) (Value 65536) None

-- the register waits for the younger writer of x5; after it has ended for nothing, though the older one is busy
overwritten_tables : (tables_of 3 overwritten_run ≡ after 3
    (row pools.Alu 0 (instr Addi 5 0 0 1) (Value 0) Unread None ∷ overwritten_product ∷ [])
    (waits_for 5 pools.Alu 0 no_writers))
    × (tables_of 4 overwritten_run ≡ after 4 (overwritten_product ∷ []) no_writers)
unfolding times_of
overwritten_tables = (refl, refl)

abbrev accesses_run : List Done
accesses_run = history (with_latency units.Mem two_alu_stations 2) (stored_and_loaded 1)

-- the store and the load, which shows this in place of its address
abbrev accesses : ℕ → List Busy
accesses a = row pools.Load 0 (instr Lb 2 8 0 1) (Value 256) Unread (Some a)
    ∷ row pools.Store 0 (instr Sw 0 8 1 0) (Value 256) (Value 768) (Some 256) ∷ []

-- before its address cycle the load shows its offset
access_tables : (tables_of 4 accesses_run ≡ after 4 (accesses 1) (waits_for 2 pools.Load 0 no_writers))
    × (tables_of 5 accesses_run ≡ after 5 (accesses 257) (waits_for 2 pools.Load 0 no_writers))
unfolding times_of
access_tables = (refl, refl)

jump_after_3 : tables_of 3 (history (with_latency units.Mul two_alu_stations 3) jump_to_product) ≡ after 3
    (row pools.Mul 0 (instr Mul 6 5 5 0) (Value 4) (Value 4) None
    ∷ row pools.Bru 0 (instr Jalr 0 6 0 0) (Waits (tag pools.Mul 0)) Unread None ∷ [])
    (waits_for 6 pools.Mul 0 no_writers)
unfolding times_of
jump_after_3 = refl

-- an instruction that issues in its producers' cycle waits for their stations
product_width_four_after_1 : tables_of 1 (history (with_width (with_latency units.Mul two_alu_stations 3) 4) product)
    ≡ after 1 (row pools.Alu 0 (instr Addi 1 0 0 5) (Value 0) Unread None
    ∷ row pools.Alu 1 (instr Addi 2 0 0 7) (Value 0) Unread None
    ∷ row pools.Mul 0 (instr Mul 3 1 2 0) (Waits (tag pools.Alu 0)) (Waits (tag pools.Alu 1)) None ∷ [])
    (waits_for 3 pools.Mul 0 (waits_for 2 pools.Alu 1 (waits_for 1 pools.Alu 0 no_writers)))
unfolding times_of
product_width_four_after_1 = refl
