-- The in-order step: the effect of one instruction of RV32IM on pc, registers and memory (the manual's chapters RV32I
-- and M), in this project's environment: memory is one window, instructions are fetched from the image as it was
-- loaded, ECALL and EBREAK end the program.
use Rattle.std.specs.Prelude.{ℕ, ◌*◌, ◌/◌, ◌%◌, ◌-◌, List, slice_index, slice_set, Bool}
use Rattle.std.specs.Prelude.{nat_eq, if◌then◌else◌, Option, Some, None, option_map}
use Rattle.tomex_rvdec.specs.declared.op.Op.{Op}
use Rattle.tomex_rvdec.specs.declared.op.Op.TheVariants.{Lui, Auipc, Jal, Jalr, Beq, Bne, Blt, Bge, Bltu, Bgeu, Lb}
use Rattle.tomex_rvdec.specs.declared.op.Op.TheVariants.{Lh, Lw, Lbu, Lhu, Sb, Sh, Sw, Addi, Slti, Sltiu, Xori, Ori}
use Rattle.tomex_rvdec.specs.declared.op.Op.TheVariants.{Andi, Slli, Srli, Srai, Add, Sub, Sll, Slt, Sltu, Xor, Srl}
use Rattle.tomex_rvdec.specs.declared.op.Op.TheVariants.{Sra, Or, And, Mul, Mulh, Mulhsu, Mulhu, Div, Divu, Rem}
use Rattle.tomex_rvdec.specs.declared.op.Op.TheVariants.{Remu, Fence, Ecall, Ebreak}
use Rattle.tomex_rvdec.specs.Instruction.{Instruction}
use Rattle.tomex_rvdec.specs.Meaning.{meaning}
use Rattle.tomex_image.specs.Image.{Loaded}
use Rattle.tomex_rvexec.specs.declared.step.Step.{Step}
use Rattle.tomex_rvexec.specs.declared.outcome.EndKind.{EndKind}
use Rattle.tomex_rvexec.specs.declared.outcome.EndKind.TheVariants as ends
use Rattle.tomex_rvexec.specs.declared.outcome.FaultKind.{FaultKind}
use Rattle.tomex_rvexec.specs.declared.outcome.FaultKind.TheVariants.{Fetch, Illegal, MisalignedTarget, Access}
use Rattle.tomex_rvexec.specs.Fetch.{word_at}
use Rattle.tomex_rvexec.specs.Words.{sum, alu_of, muldiv_of, is_taken}
use Rattle.tomex_rvexec.specs.Memory.{is_inside, byte_read, half_read, word_read, from_byte, from_half}
use Rattle.tomex_rvexec.specs.Memory.{byte_written, half_written, word_written}

-- a program that runs: its image, and what a step may change
pub record State : Type 0 where
  pub image : Loaded
  pub pc : ℕ
  pub regs : List ℕ
  pub memory : List ℕ

-- the outcome of a step
pub data Outcome : Type 0 where
  Goes : State → Outcome
  Ends : EndKind → Outcome
  Faults : FaultKind → Outcome

abbrev pub base_of : State → ℕ
base_of s = s.image.window.base

-- `count` bytes from an address on lie in memory
abbrev pub holds : State → ℕ → ℕ → Bool
holds s address count = is_inside s.image.window.base s.image.window.size address count

abbrev pub next_pc : State → ℕ
next_pc s = sum s.pc 4

-- x0 ignores writes
abbrev pub with_register : List ℕ → ℕ → ℕ → List ℕ
with_register regs r v = if nat_eq r 0 then regs else slice_set regs r v

-- the register is written, and the next instruction follows
abbrev pub writes : State → ℕ → ℕ → Outcome
writes s r v = Goes (record s { pc = next_pc s; regs = with_register s.regs r v })

-- a jump that writes the register
abbrev pub jumps : State → ℕ → ℕ → Outcome
jumps s r target =
    if nat_eq (target % 4) 0
    then Goes (record s { pc = target; regs = with_register s.regs r (next_pc s) })
    else Faults MisalignedTarget

abbrev pub branches : State → Bool → ℕ → Outcome
branches s taken target =
    if taken
    then (if nat_eq (target % 4) 0 then Goes (record s { pc = target }) else Faults MisalignedTarget)
    else Goes (record s { pc = next_pc s })

-- a load of `count` bytes, by a function of the memory and the place in it
abbrev pub loads : State → ℕ → ℕ → ℕ → (List ℕ → ℕ → ℕ) → Outcome
loads s r address count read =
    if holds s address count then writes s r (read s.memory (address - base_of s)) else Faults Access

abbrev pub stores : State → ℕ → ℕ → (List ℕ → ℕ → List ℕ) → Outcome
stores s address count written =
    if holds s address count
    then Goes (record s { pc = next_pc s; memory = written s.memory (address - base_of s) })
    else Faults Access

-- the effect of each operation, given its step: a row for each
abbrev pub executes : Op → Step → State → Outcome
executes Lui x s = writes s x.instr.rd x.instr.imm
executes Auipc x s = writes s x.instr.rd (sum s.pc x.instr.imm)
executes Jal x s = jumps s x.instr.rd (sum s.pc x.instr.imm)
executes Jalr x s = jumps s x.instr.rd (sum x.vj x.instr.imm / 2 * 2)
executes Beq x s = branches s (is_taken Beq x.vj x.vk) (sum s.pc x.instr.imm)
executes Bne x s = branches s (is_taken Bne x.vj x.vk) (sum s.pc x.instr.imm)
executes Blt x s = branches s (is_taken Blt x.vj x.vk) (sum s.pc x.instr.imm)
executes Bge x s = branches s (is_taken Bge x.vj x.vk) (sum s.pc x.instr.imm)
executes Bltu x s = branches s (is_taken Bltu x.vj x.vk) (sum s.pc x.instr.imm)
executes Bgeu x s = branches s (is_taken Bgeu x.vj x.vk) (sum s.pc x.instr.imm)
executes Lb x s = loads s x.instr.rd (sum x.vj x.instr.imm) 1 (λ m i. from_byte (byte_read m i))
executes Lh x s = loads s x.instr.rd (sum x.vj x.instr.imm) 2 (λ m i. from_half (half_read m i))
executes Lw x s = loads s x.instr.rd (sum x.vj x.instr.imm) 4 (λ m i. word_read m i)
executes Lbu x s = loads s x.instr.rd (sum x.vj x.instr.imm) 1 (λ m i. byte_read m i)
executes Lhu x s = loads s x.instr.rd (sum x.vj x.instr.imm) 2 (λ m i. half_read m i)
executes Sb x s = stores s (sum x.vj x.instr.imm) 1 (λ m i. byte_written m i x.vk)
executes Sh x s = stores s (sum x.vj x.instr.imm) 2 (λ m i. half_written m i x.vk)
executes Sw x s = stores s (sum x.vj x.instr.imm) 4 (λ m i. word_written m i x.vk)
executes Addi x s = writes s x.instr.rd (alu_of Addi x.vj x.instr.imm)
executes Slti x s = writes s x.instr.rd (alu_of Slti x.vj x.instr.imm)
executes Sltiu x s = writes s x.instr.rd (alu_of Sltiu x.vj x.instr.imm)
executes Xori x s = writes s x.instr.rd (alu_of Xori x.vj x.instr.imm)
executes Ori x s = writes s x.instr.rd (alu_of Ori x.vj x.instr.imm)
executes Andi x s = writes s x.instr.rd (alu_of Andi x.vj x.instr.imm)
executes Slli x s = writes s x.instr.rd (alu_of Slli x.vj x.instr.imm)
executes Srli x s = writes s x.instr.rd (alu_of Srli x.vj x.instr.imm)
executes Srai x s = writes s x.instr.rd (alu_of Srai x.vj x.instr.imm)
executes Add x s = writes s x.instr.rd (alu_of Add x.vj x.vk)
executes Sub x s = writes s x.instr.rd (alu_of Sub x.vj x.vk)
executes Sll x s = writes s x.instr.rd (alu_of Sll x.vj x.vk)
executes Slt x s = writes s x.instr.rd (alu_of Slt x.vj x.vk)
executes Sltu x s = writes s x.instr.rd (alu_of Sltu x.vj x.vk)
executes Xor x s = writes s x.instr.rd (alu_of Xor x.vj x.vk)
executes Srl x s = writes s x.instr.rd (alu_of Srl x.vj x.vk)
executes Sra x s = writes s x.instr.rd (alu_of Sra x.vj x.vk)
executes Or x s = writes s x.instr.rd (alu_of Or x.vj x.vk)
executes And x s = writes s x.instr.rd (alu_of And x.vj x.vk)
executes Mul x s = writes s x.instr.rd (muldiv_of Mul x.vj x.vk)
executes Mulh x s = writes s x.instr.rd (muldiv_of Mulh x.vj x.vk)
executes Mulhsu x s = writes s x.instr.rd (muldiv_of Mulhsu x.vj x.vk)
executes Mulhu x s = writes s x.instr.rd (muldiv_of Mulhu x.vj x.vk)
executes Div x s = writes s x.instr.rd (muldiv_of Div x.vj x.vk)
executes Divu x s = writes s x.instr.rd (muldiv_of Divu x.vj x.vk)
executes Rem x s = writes s x.instr.rd (muldiv_of Rem x.vj x.vk)
executes Remu x s = writes s x.instr.rd (muldiv_of Remu x.vj x.vk)
executes Fence x s = Goes (record s { pc = next_pc s })
executes Ecall x s = Ends ends.Ecall
executes Ebreak x s = Ends ends.Ebreak

-- the word that is fetched
abbrev pub fetched_word : State → ℕ
fetched_word s = word_at s.image s.pc

-- an instruction at the pc, with the values of its source registers
abbrev pub step_at : State → Instruction → Step
step_at s x = record { pc = s.pc; instr = x; vj = slice_index s.regs x.rs1; vk = slice_index s.regs x.rs2 }

-- the step that the fetched word asks for, if it means an instruction
abbrev pub decoded_step : State → Option Step
decoded_step s = option_map (step_at s) (meaning (fetched_word s))

abbrev pub outcome_of : Option Step → State → Outcome
outcome_of None s = Faults Illegal
outcome_of (Some x) s = executes x.instr.op x s

-- one step: fetch, then decoding, then the instruction's own target or access
unfoldable pub step_of : State → Outcome
step_of s = if holds s s.pc 4 then outcome_of (decoded_step s) s else Faults Fetch

-- the next step, whatever its outcome; none if fetching or decoding faults
abbrev pub coming_of : State → Option Step
coming_of s = if holds s s.pc 4 then decoded_step s else None
