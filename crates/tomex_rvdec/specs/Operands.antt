-- The parts of a machine that each operation uses: its pool of stations, its kind of unit, the registers that it
-- reads and the one that it writes.
use Rattle.std.specs.Prelude.{ℕ, Option, Some, None, if◌then◌else◌, nat_eq}
use Rattle.tomex_rvdec.specs.declared.op.Op.{Op}
use Rattle.tomex_rvdec.specs.declared.op.Op.TheVariants.{Jalr, Beq, Bne, Blt, Bge, Bltu, Bgeu, Lb, Lh, Lw, Lbu, Lhu}
use Rattle.tomex_rvdec.specs.declared.op.Op.TheVariants.{Sb, Sh, Sw, Mul, Mulh, Mulhsu, Mulhu, Div, Divu, Rem, Remu}
use Rattle.tomex_rvdec.specs.declared.op.Op.TheVariants.{Fence, Ecall, Ebreak}
use Rattle.tomex_rvdec.specs.declared.op.Form.{Form}
use Rattle.tomex_rvdec.specs.declared.op.Form.TheVariants as forms
use Rattle.tomex_rvdec.specs.declared.pool.PoolId.{PoolId}
use Rattle.tomex_rvdec.specs.declared.pool.PoolId.TheVariants as pools
use Rattle.tomex_rvdec.specs.declared.pool.UnitId.{UnitId}
use Rattle.tomex_rvdec.specs.declared.pool.UnitId.TheVariants as units
use Rattle.tomex_rvdec.specs.declared.instr.Sources.{Sources}
use Rattle.tomex_rvdec.specs.Instruction.{Instruction}
use Rattle.tomex_rvdec.specs.Meaning.{form_of}

-- the pool in which an operation waits for its operands; JAL is an alu instruction, JALR a branch
abbrev pub pool_of : Op → Option PoolId
pool_of Mul = Some pools.Mul
pool_of Mulh = Some pools.Mul
pool_of Mulhsu = Some pools.Mul
pool_of Mulhu = Some pools.Mul
pool_of Div = Some pools.Div
pool_of Divu = Some pools.Div
pool_of Rem = Some pools.Div
pool_of Remu = Some pools.Div
pool_of Lb = Some pools.Load
pool_of Lh = Some pools.Load
pool_of Lw = Some pools.Load
pool_of Lbu = Some pools.Load
pool_of Lhu = Some pools.Load
pool_of Sb = Some pools.Store
pool_of Sh = Some pools.Store
pool_of Sw = Some pools.Store
pool_of Jalr = Some pools.Bru
pool_of Beq = Some pools.Bru
pool_of Bne = Some pools.Bru
pool_of Blt = Some pools.Bru
pool_of Bge = Some pools.Bru
pool_of Bltu = Some pools.Bru
pool_of Bgeu = Some pools.Bru
pool_of Fence = None
pool_of Ecall = None
pool_of Ebreak = None
pool_of _ = Some pools.Alu

-- the kind of unit that serves a pool; loads and stores share the memory ports
abbrev pub unit_of_pool : PoolId → UnitId
unit_of_pool pools.Alu = units.Alu
unit_of_pool pools.Mul = units.Mul
unit_of_pool pools.Div = units.Div
unit_of_pool pools.Load = units.Mem
unit_of_pool pools.Store = units.Mem
unit_of_pool pools.Bru = units.Bru

abbrev pub unit_at : Option PoolId → Option UnitId
unit_at None = None
unit_at (Some pool) = Some (unit_of_pool pool)

abbrev pub unit_of : Op → Option UnitId
unit_of op = unit_at (pool_of op)

-- the registers that a form reads: j is rs1 and k is rs2
abbrev pub sources_at : Form → ℕ → ℕ → Sources
sources_at forms.Register rs1 rs2 = record { j = Some rs1; k = Some rs2 }
sources_at forms.Store rs1 rs2 = record { j = Some rs1; k = Some rs2 }
sources_at forms.Branch rs1 rs2 = record { j = Some rs1; k = Some rs2 }
sources_at forms.Immediate rs1 rs2 = record { j = Some rs1; k = None }
sources_at forms.Offset rs1 rs2 = record { j = Some rs1; k = None }
sources_at forms.Shift rs1 rs2 = record { j = Some rs1; k = None }
sources_at _ rs1 rs2 = record { j = None; k = None }

abbrev pub sources_of : Instruction → Sources
sources_of x = sources_at (form_of x.op) x.rs1 x.rs2

-- x0 is no destination
abbrev pub unless_zero : ℕ → Option ℕ
unless_zero r = if nat_eq r 0 then None else Some r

-- the register that a form writes
abbrev pub dest_at : Form → ℕ → Option ℕ
dest_at forms.Store rd = None
dest_at forms.Branch rd = None
dest_at forms.Fence rd = None
dest_at forms.Whole rd = None
dest_at _ rd = unless_zero rd

abbrev pub dest_of : Instruction → Option ℕ
dest_of x = dest_at (form_of x.op) x.rd
