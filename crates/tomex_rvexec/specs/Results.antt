-- The results of a step from its operands (RV32I, sections 2.4 to 2.6; M, chapter 7): its result, the pc that follows
-- it, and the bytes that a store leaves. All of it is a function of the step, and of the bytes that a load reads.
use Rattle.std.specs.Prelude.{ℕ, ◌+◌, ◌-◌, ◌*◌, ◌/◌, ◌%◌, ◌^◌, Bool, false, ◌&&◌, nat_le, nat_lt, if◌then◌else◌}
use Rattle.std.specs.Prelude.{Option, Some, None, slice_index}
use Rattle.tomex_rvdec.specs.declared.op.Op.{Op}
use Rattle.tomex_rvdec.specs.declared.op.Op.TheVariants.{Lui, Auipc, Jal, Jalr, Lb, Lh, Lw, Lbu, Lhu}
use Rattle.tomex_rvdec.specs.declared.op.Form.{Form}
use Rattle.tomex_rvdec.specs.declared.op.Form.TheVariants as forms
use Rattle.tomex_rvdec.specs.declared.pool.PoolId.{PoolId}
use Rattle.tomex_rvdec.specs.declared.pool.PoolId.TheVariants as pools
use Rattle.tomex_rvdec.specs.Meaning.{form_of}
use Rattle.tomex_rvdec.specs.Operands.{pool_of}
use Rattle.tomex_rvexec.specs.declared.step.Step.{Step}
use Rattle.tomex_rvexec.specs.declared.step.ByteRange.{ByteRange}
use Rattle.tomex_rvexec.specs.Memory.{Bytes, from_byte, from_half}
use Rattle.tomex_rvexec.specs.Steps.{address_of, bytes_of, is_store}
use Rattle.tomex_rvexec.specs.Words.{sum, alu_of, muldiv_of, is_taken}

-- the second operand of an operation: rs2's value, or the immediate
abbrev pub second_at : Form → Step → ℕ
second_at forms.Register x = x.vk
second_at _ x = x.instr.imm

-- the value of a load, from the bytes at its address
abbrev pub load_value : Op → (ℕ → ℕ) → ℕ → ℕ
load_value Lb byte a = from_byte (byte a)
load_value Lh byte a = from_half (byte a + 256 * byte (a + 1))
load_value Lw byte a = byte a + 256 * byte (a + 1) + 65536 * byte (a + 2) + 16777216 * byte (a + 3)
load_value Lbu byte a = byte a
load_value Lhu byte a = byte a + 256 * byte (a + 1)
load_value _ byte a = 0

-- the result of the unit of a pool
abbrev pub unit_result : Option PoolId → Op → Step → (ℕ → ℕ) → ℕ
unit_result (Some pools.Alu) op x byte = alu_of op x.vj (second_at (form_of op) x)
unit_result (Some pools.Mul) op x byte = muldiv_of op x.vj x.vk
unit_result (Some pools.Div) op x byte = muldiv_of op x.vj x.vk
unit_result (Some pools.Load) op x byte = load_value op byte (address_of x)
unit_result _ op x byte = 0

abbrev pub result_at : Op → Step → (ℕ → ℕ) → ℕ
result_at Lui x byte = x.instr.imm
result_at Auipc x byte = sum x.pc x.instr.imm
result_at Jal x byte = sum x.pc 4
result_at Jalr x byte = sum x.pc 4
result_at op x byte = unit_result (pool_of op) op x byte

-- the result of a step, for its destination. A load's depends on the bytes that it reads, by address; no other
-- depends on memory
abbrev pub result_of : Step → (ℕ → ℕ) → ℕ
result_of x byte = result_at x.instr.op x byte

-- JALR clears the lowest bit of its target
abbrev pub next_at : Op → Step → ℕ
next_at Jal x = sum x.pc x.instr.imm
next_at Jalr x = sum x.vj x.instr.imm / 2 * 2
next_at op x = if is_taken op x.vj x.vk then sum x.pc x.instr.imm else sum x.pc 4

-- the pc after a step: the target of a jump or of a branch that is taken, else the next instruction
abbrev pub next_pc_of : Step → ℕ
next_pc_of x = next_at x.instr.op x

abbrev pub is_among : Option ByteRange → ℕ → Bool
is_among None a = false
is_among (Some bytes) a = nat_le bytes.from a && nat_lt a bytes.to

-- a load or store touches the byte at an address
abbrev pub covers : Step → ℕ → Bool
covers x a = is_among (bytes_of x) a

-- a step writes the byte at an address
abbrev pub overwrites : Step → ℕ → Bool
overwrites x a = is_store x && covers x a

-- the byte that a store leaves at an address, the low one of rs2's value first
abbrev pub stored_byte : Step → ℕ → ℕ
stored_byte x a = x.vk / 256 ^ (a - address_of x) % 256

-- the byte of a memory at an address
abbrev pub byte_in : Bytes → ℕ → ℕ
byte_in memory a = slice_index memory.bytes (a - memory.base)
