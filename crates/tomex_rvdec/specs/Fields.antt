-- Bit fields of an instruction word, and its immediates: the manual's base instruction
-- formats and the immediates that each of them produces (RV32I, sections 2.2 and 2.3).
use Rattle.std.specs.Prelude.{ℕ, ◌+◌, ◌-◌, ◌*◌, ◌/◌, ◌%◌, ◌^◌, cond, nat_lt}

-- bits high to low of a word, as a number
abbrev pub field : ℕ → ℕ → ℕ → ℕ
field w high low = w / 2 ^ low % 2 ^ (high - low + 1)

abbrev pub opcode : ℕ → ℕ
opcode w = field w 6 0

abbrev pub rd_field : ℕ → ℕ
rd_field w = field w 11 7

abbrev pub funct3 : ℕ → ℕ
funct3 w = field w 14 12

abbrev pub rs1_field : ℕ → ℕ
rs1_field w = field w 19 15

abbrev pub rs2_field : ℕ → ℕ
rs2_field w = field w 24 20

abbrev pub funct7 : ℕ → ℕ
funct7 w = field w 31 25

-- the word of 32 bits whose low bits are those of n, and whose higher bits copy n's bit (size - 1)
abbrev pub sign_extended : ℕ → ℕ → ℕ
sign_extended size n = cond (nat_lt n (2 ^ (size - 1))) n (n + (2 ^ 32 - 2 ^ size))

-- The five immediates. A field is written as the manual writes it, its high bit first.
abbrev pub imm_i : ℕ → ℕ
imm_i w = sign_extended 12 (field w 31 20)

abbrev pub imm_s : ℕ → ℕ
imm_s w = sign_extended 12 (field w 31 25 * 2 ^ 5 + field w 11 7)

abbrev pub imm_b : ℕ → ℕ
imm_b w = sign_extended 13 (field w 31 31 * 2 ^ 12 + field w 7 7 * 2 ^ 11 + field w 30 25 * 2 ^ 5 + field w 11 8 * 2)

abbrev pub imm_u : ℕ → ℕ
imm_u w = field w 31 12 * 2 ^ 12

abbrev pub imm_j : ℕ → ℕ
imm_j w =
    sign_extended 21 (field w 31 31 * 2 ^ 20 + field w 19 12 * 2 ^ 12 + field w 20 20 * 2 ^ 11 + field w 30 21 * 2)
