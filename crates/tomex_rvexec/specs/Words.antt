-- The results of operations on words of 32 bits, signed values in two's complement (RV32I, sections 2.4 "Integer
-- Computational Instructions" and 2.5 "Control Transfer Instructions"; M, sections 7.1 "Multiplication Operations"
-- and 7.2 "Division Operations").
use Rattle.std.specs.Prelude.{ℕ, ◌+◌, ◌-◌, ◌*◌, ◌/◌, ◌%◌, ◌^◌, ℤ, pos, ◌*ℤ◌, int_lt, int_div, int_rem, bit_and}
use Rattle.std.specs.Prelude.{bit_or, bit_xor, if◌then◌else◌, nat_lt, nat_eq, Bool, false, not}
use Rattle.std.specs.Int.{cast_signed, cast_unsigned, int_shr, w32, w64}
use Rattle.tomex_rvdec.specs.declared.op.Op.{Op}
use Rattle.tomex_rvdec.specs.declared.op.Op.TheVariants.{Beq, Bne, Blt, Bge, Bltu, Bgeu, Addi, Slti, Sltiu, Xori}
use Rattle.tomex_rvdec.specs.declared.op.Op.TheVariants.{Ori, Andi, Slli, Srli, Srai, Add, Sub, Sll, Slt, Sltu, Xor}
use Rattle.tomex_rvdec.specs.declared.op.Op.TheVariants.{Srl, Sra, Or, And, Mul, Mulh, Mulhsu, Mulhu, Div, Divu}
use Rattle.tomex_rvdec.specs.declared.op.Op.TheVariants.{Rem, Remu}

-- a word's signed value
abbrev pub signed_value : ℕ → ℤ
signed_value a = cast_signed w32 a

-- sums and differences wrap
abbrev pub sum : ℕ → ℕ → ℕ
sum a b = (a + b) % 2 ^ 32

abbrev pub difference : ℕ → ℕ → ℕ
difference a b = (a + (2 ^ 32 - b)) % 2 ^ 32

-- 1 if the test is true, else 0
abbrev pub flag : Bool → ℕ
flag t = if t then 1 else 0

-- a shift takes the low five bits of its amount
abbrev pub shifted_left : ℕ → ℕ → ℕ
shifted_left a b = a * 2 ^ (b % 32) % 2 ^ 32

abbrev pub shifted_right : ℕ → ℕ → ℕ
shifted_right a b = a / 2 ^ (b % 32)

-- the sign is copied
abbrev pub shifted_signed : ℕ → ℕ → ℕ
shifted_signed a b = cast_unsigned w32 (int_shr (signed_value a) (b % 32))

-- the high 32 bits of a product's 64
abbrev pub high_half : ℤ → ℕ
high_half z = cast_unsigned w64 z / 2 ^ 32

-- the quotient, rounded toward zero; all ones if the divisor is 0
abbrev pub quotient : ℕ → ℕ → ℕ
quotient a b = if nat_eq b 0 then 2 ^ 32 - 1 else cast_unsigned w32 (int_div (signed_value a) (signed_value b))

-- the remainder, with the dividend's sign; the dividend if the divisor is 0
abbrev pub remainder : ℕ → ℕ → ℕ
remainder a b = if nat_eq b 0 then a else cast_unsigned w32 (int_rem (signed_value a) (signed_value b))

abbrev pub quotient_unsigned : ℕ → ℕ → ℕ
quotient_unsigned a b = if nat_eq b 0 then 2 ^ 32 - 1 else a / b

abbrev pub remainder_unsigned : ℕ → ℕ → ℕ
remainder_unsigned a b = if nat_eq b 0 then a else a % b

-- an operation of the alu pool on its two operands, the second one a register or the immediate
abbrev pub alu_of : Op → ℕ → ℕ → ℕ
alu_of Add a b = sum a b
alu_of Addi a b = sum a b
alu_of Sub a b = difference a b
alu_of Sll a b = shifted_left a b
alu_of Slli a b = shifted_left a b
alu_of Slt a b = flag (int_lt (signed_value a) (signed_value b))
alu_of Slti a b = flag (int_lt (signed_value a) (signed_value b))
alu_of Sltu a b = flag (nat_lt a b)
alu_of Sltiu a b = flag (nat_lt a b)
alu_of Xor a b = bit_xor a b
alu_of Xori a b = bit_xor a b
alu_of Srl a b = shifted_right a b
alu_of Srli a b = shifted_right a b
alu_of Sra a b = shifted_signed a b
alu_of Srai a b = shifted_signed a b
alu_of Or a b = bit_or a b
alu_of Ori a b = bit_or a b
alu_of And a b = bit_and a b
alu_of Andi a b = bit_and a b
alu_of _ a b = 0

-- an operation of M
abbrev pub muldiv_of : Op → ℕ → ℕ → ℕ
muldiv_of Mul a b = a * b % 2 ^ 32
muldiv_of Mulh a b = high_half (signed_value a *ℤ signed_value b)
muldiv_of Mulhsu a b = high_half (signed_value a *ℤ pos b)
muldiv_of Mulhu a b = a * b / 2 ^ 32
muldiv_of Div a b = quotient a b
muldiv_of Divu a b = quotient_unsigned a b
muldiv_of Rem a b = remainder a b
muldiv_of Remu a b = remainder_unsigned a b
muldiv_of _ a b = 0

-- the branch's comparison holds
abbrev pub is_taken : Op → ℕ → ℕ → Bool
is_taken Beq a b = nat_eq a b
is_taken Bne a b = not (nat_eq a b)
is_taken Blt a b = int_lt (signed_value a) (signed_value b)
is_taken Bge a b = not (int_lt (signed_value a) (signed_value b))
is_taken Bltu a b = nat_lt a b
is_taken Bgeu a b = not (nat_lt a b)
is_taken _ a b = false
