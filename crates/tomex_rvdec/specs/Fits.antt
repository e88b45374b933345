-- Which instructions there are, by their parts: registers are numbers below 32, a field that the form doesn't have is
-- zero, and the immediate is one of those that the form can hold (the manual's RV32I, sections 2.2 and 2.3).
use Rattle.std.specs.Prelude.{ℕ, ◌-◌, ◌*◌, ◌/◌, ◌^◌, ◌<◌, ◌≤◌, ◌≡◌, ◌⊎◌}
use Rattle.tomex_rvdec.specs.declared.op.Form.{Form}
use Rattle.tomex_rvdec.specs.declared.op.Form.TheVariants as forms
use Rattle.tomex_rvdec.specs.Instruction.{Instruction}

-- a number of `size` bits with a sign, modulo 2 ^ 32
abbrev pub IsSigned : ℕ → ℕ → Type 0
IsSigned size n = n < 2 ^ (size - 1) ⊎ ((2 ^ 32 - 2 ^ (size - 1) ≤ n) × (n < 2 ^ 32))

-- a multiple of m
abbrev pub IsMultiple : ℕ → ℕ → Type 0
IsMultiple m n = n ≡ n / m * m

abbrev pub Holds : Form → ℕ → Type 0
Holds forms.Register n = n ≡ 0
Holds forms.Immediate n = IsSigned 12 n
Holds forms.Offset n = IsSigned 12 n
Holds forms.Shift n = n < 32
Holds forms.Store n = IsSigned 12 n
Holds forms.Branch n = IsSigned 13 n × IsMultiple 2 n
Holds forms.Upper n = (n < 2 ^ 32) × IsMultiple (2 ^ 12) n
Holds forms.Jump n = IsSigned 21 n × IsMultiple 2 n
Holds forms.Fence n = n < 2 ^ 12
Holds forms.Whole n = n ≡ 0

abbrev pub HasRegisters : Form → Instruction → Type 0
HasRegisters forms.Register x = (x.rd < 32) × (x.rs1 < 32) × (x.rs2 < 32)
HasRegisters forms.Immediate x = (x.rd < 32) × (x.rs1 < 32) × (x.rs2 ≡ 0)
HasRegisters forms.Offset x = (x.rd < 32) × (x.rs1 < 32) × (x.rs2 ≡ 0)
HasRegisters forms.Shift x = (x.rd < 32) × (x.rs1 < 32) × (x.rs2 ≡ 0)
HasRegisters forms.Store x = (x.rd ≡ 0) × (x.rs1 < 32) × (x.rs2 < 32)
HasRegisters forms.Branch x = (x.rd ≡ 0) × (x.rs1 < 32) × (x.rs2 < 32)
HasRegisters forms.Upper x = (x.rd < 32) × (x.rs1 ≡ 0) × (x.rs2 ≡ 0)
HasRegisters forms.Jump x = (x.rd < 32) × (x.rs1 ≡ 0) × (x.rs2 ≡ 0)
HasRegisters forms.Fence x = (x.rd < 32) × (x.rs1 < 32) × (x.rs2 ≡ 0)
HasRegisters forms.Whole x = (x.rd ≡ 0) × (x.rs1 ≡ 0) × (x.rs2 ≡ 0)

abbrev pub Fits : Form → Instruction → Type 0
Fits form x = HasRegisters form x × Holds form x.imm
