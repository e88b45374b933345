-- Results are words of 32 bits.
use Rattle.std.proofs.Common.{◌≡◌, ℕ, zero, suc, ◌+◌, ◌-◌, ◌*◌, ◌/◌, ◌%◌, ◌^◌, ◌<◌, ◌≤◌, Option, Some, Bool, true}
use Rattle.std.proofs.Common.{false, refl, arith, ℤ, pos, negsuc}
use Rattle.std.specs.Prelude.{◌*ℤ◌, neg_ℤ, unsigned_abs, int_div, int_rem, int_lt, nat_eq, nat_lt, if◌then◌else◌}
use Rattle.std.specs.Int.{cast_unsigned, int_shr, w32, w64}
use mir.Val.{sel}
use Rattle.std.proofs.Math.Nat.{div-le_self, mod-le}
use Rattle.std.proofs.lemmas.Bool.{ltb-true, ltb-false}
use Rattle.std.proofs.lemmas.Int.{unsigned_abs-mul}
use Rattle.std.proofs.lemmas.Nat.{and_le_l, div_below, mod_below, mul-le, mul-lt, or_of_32, xor_of_32}
use Rattle.tomex_rvdec.specs.declared.op.Op.{Op}
use Rattle.tomex_rvdec.specs.declared.op.Op.TheVariants.{Lui, Auipc, Jal, Jalr, Lb, Lh, Lw, Lbu, Lhu, Addi, Slti, Sltiu}
use Rattle.tomex_rvdec.specs.declared.op.Op.TheVariants.{Xori, Ori, Andi, Slli, Srli, Srai, Add, Sub, Sll, Slt, Sltu}
use Rattle.tomex_rvdec.specs.declared.op.Op.TheVariants.{Xor, Srl, Sra, Or, And, Mul, Mulh, Mulhsu, Mulhu, Div, Divu}
use Rattle.tomex_rvdec.specs.declared.op.Op.TheVariants.{Rem, Remu}
use Rattle.tomex_rvdec.specs.declared.op.Form.{Form}
use Rattle.tomex_rvdec.specs.declared.op.Form.TheVariants as forms
use Rattle.tomex_rvdec.specs.declared.pool.PoolId.{PoolId}
use Rattle.tomex_rvdec.specs.declared.pool.PoolId.TheVariants as pools
use Rattle.tomex_rvdec.specs.Meaning.{form_of}
use Rattle.tomex_rvdec.specs.Operands.{pool_of}
use Rattle.tomex_rvexec.specs.declared.step.Step.{Step}
use Rattle.tomex_rvexec.specs.Results.{unit_result, load_value, next_at, result_at, second_at}
use Rattle.tomex_rvexec.specs.Memory.{from_byte, from_half}
use Rattle.tomex_rvexec.specs.Steps.{address_of}
use Rattle.tomex_rvexec.specs.Words.{alu_of, flag, high_half, is_taken, muldiv_of, quotient, remainder}
use Rattle.tomex_rvexec.specs.Words.{signed_value, sum}

abs_neg : (n : ℕ) → unsigned_abs (neg_ℤ (pos n)) ≡ n
abs_neg zero = refl
abs_neg (suc n) = refl

word_of : (z : ℤ) → unsigned_abs z < 2 ^ 32 → cast_unsigned w32 z < 2 ^ 32
word_of (pos n) h = h
word_of (negsuc n) h = omega arith

doubleword_of : (z : ℤ) → unsigned_abs z < 2 ^ 64 → cast_unsigned w64 z < 2 ^ 64
doubleword_of (pos n) h = h
doubleword_of (negsuc n) h = omega arith

signed_abs : (a : ℕ) → a < 2 ^ 32 → unsigned_abs (signed_value a) ≤ 2 ^ 31
signed_abs a h = at (nat_lt a (2 ^ 31)) refl
  where
    at : (b : Bool) → nat_lt a (2 ^ 31) ≡ b → unsigned_abs (sel b (pos a) (negsuc (2 ^ 32 - suc a))) ≤ 2 ^ 31
    at true e = omega (arith, ltb-true a (2 ^ 31) e)
    at false e = omega (arith, ltb-false a (2 ^ 31) e)

quotient_abs : (a d : ℤ) → unsigned_abs (int_div a d) ≤ unsigned_abs a
quotient_abs (pos a) (pos b) = div-le_self a b
quotient_abs (pos a) (negsuc b) = omega (arith, abs_neg (a / suc b), div-le_self a (suc b))
quotient_abs (negsuc a) (pos b) = omega (arith, abs_neg (suc a / b), div-le_self (suc a) b)
quotient_abs (negsuc a) (negsuc b) = div-le_self (suc a) (suc b)

remainder_abs : (a d : ℤ) → unsigned_abs (int_rem a d) ≤ unsigned_abs a
remainder_abs (pos a) d = mod-le a (unsigned_abs d)
remainder_abs (negsuc a) d = omega (arith, abs_neg (suc a % unsigned_abs d), mod-le (suc a) (unsigned_abs d))

shifted_abs : (z : ℤ) (k : ℕ) → unsigned_abs (int_shr z k) ≤ unsigned_abs z
shifted_abs (pos a) k = div-le_self a (2 ^ k)
shifted_abs (negsuc a) k = omega (arith, div-le_self a (2 ^ k))

high_word : (z : ℤ) → unsigned_abs z < 2 ^ 64 → high_half z < 2 ^ 32
high_word z h = div_below (cast_unsigned w64 z) (2 ^ 32) (2 ^ 32) (omega arith) (doubleword_of z h)

flag_word : (b : Bool) → flag b < 2 ^ 32
flag_word true = omega arith
flag_word false = omega arith

test_word : (b : Bool) (m n : ℕ) → (b ≡ true → m < 2 ^ 32) → (b ≡ false → n < 2 ^ 32) → (if b then m else n) < 2 ^ 32
test_word true m n h k = h refl
test_word false m n h k = k refl

quotient_word : (a b : ℕ) → a < 2 ^ 32 → quotient a b < 2 ^ 32
quotient_word a b h = test_word (nat_eq b 0) (2 ^ 32 - 1)
    (cast_unsigned w32 (int_div (signed_value a) (signed_value b)))
    (λ e. omega arith) (λ e. word_of (int_div (signed_value a) (signed_value b))
    (omega (arith, quotient_abs (signed_value a) (signed_value b), signed_abs a h)))

remainder_word : (a b : ℕ) → a < 2 ^ 32 → remainder a b < 2 ^ 32
remainder_word a b h = test_word (nat_eq b 0) a (cast_unsigned w32 (int_rem (signed_value a) (signed_value b))) (λ e. h)
    (λ e. word_of (int_rem (signed_value a) (signed_value b))
    (omega (arith, remainder_abs (signed_value a) (signed_value b), signed_abs a h)))

sum_word : (a b : ℕ) → sum a b < 2 ^ 32
sum_word a b = omega arith

alu_word : (op : Op) (a b : ℕ) → a < 2 ^ 32 → b < 2 ^ 32 → alu_of op a b < 2 ^ 32
alu_word Add a b h k = sum_word a b
alu_word Addi a b h k = sum_word a b
alu_word Sub a b h k = mod_below (a + (2 ^ 32 - b)) (2 ^ 32) (omega arith)
alu_word Sll a b h k = mod_below (a * 2 ^ (b % 32)) (2 ^ 32) (omega arith)
alu_word Slli a b h k = mod_below (a * 2 ^ (b % 32)) (2 ^ 32) (omega arith)
alu_word Slt a b h k = flag_word (int_lt (signed_value a) (signed_value b))
alu_word Slti a b h k = flag_word (int_lt (signed_value a) (signed_value b))
alu_word Sltu a b h k = flag_word (nat_lt a b)
alu_word Sltiu a b h k = flag_word (nat_lt a b)
alu_word Xor a b h k = xor_of_32 a b h k
alu_word Xori a b h k = xor_of_32 a b h k
alu_word Srl a b h k = omega (arith, div-le_self a (2 ^ (b % 32)))
alu_word Srli a b h k = omega (arith, div-le_self a (2 ^ (b % 32)))
alu_word Sra a b h k = word_of (int_shr (signed_value a) (b % 32))
    (omega (arith, shifted_abs (signed_value a) (b % 32), signed_abs a h))
alu_word Srai a b h k = word_of (int_shr (signed_value a) (b % 32))
    (omega (arith, shifted_abs (signed_value a) (b % 32), signed_abs a h))
alu_word Or a b h k = or_of_32 a b h k
alu_word Ori a b h k = or_of_32 a b h k
alu_word And a b h k = omega (arith, and_le_l a b)
alu_word Andi a b h k = omega (arith, and_le_l a b)
alu_word op a b h k = omega arith

muldiv_word : (op : Op) (a b : ℕ) → a < 2 ^ 32 → b < 2 ^ 32 → muldiv_of op a b < 2 ^ 32
muldiv_word Mul a b h k = mod_below (a * b) (2 ^ 32) (omega arith)
muldiv_word Mulh a b h k = high_word (signed_value a *ℤ signed_value b)
    (omega (
      arith,
      unsigned_abs-mul (signed_value a) (signed_value b),
      mul-le (unsigned_abs (signed_value a)) (unsigned_abs (signed_value b))
          (2 ^ 31) (2 ^ 31) (signed_abs a h) (signed_abs b k),
    ))
muldiv_word Mulhsu a b h k = high_word (signed_value a *ℤ pos b)
    (omega (
      arith,
      unsigned_abs-mul (signed_value a) (pos b),
      mul-le (unsigned_abs (signed_value a)) b (2 ^ 31) (2 ^ 32)
          (signed_abs a h) (omega arith),
    ))
muldiv_word Mulhu a b h k = div_below (a * b) (2 ^ 32) (2 ^ 32) (omega arith) (mul-lt a b (2 ^ 32) (2 ^ 32) h k)
muldiv_word Div a b h k = quotient_word a b h
muldiv_word Divu a b h k = test_word (nat_eq b 0) (2 ^ 32 - 1) (a / b) (λ e. omega arith)
    (λ e. omega (arith, div-le_self a b))
muldiv_word Rem a b h k = remainder_word a b h
muldiv_word Remu a b h k = test_word (nat_eq b 0) a (a % b) (λ e. h) (λ e. omega (arith, mod-le a b))
muldiv_word op a b h k = omega arith

byte_word : (b : ℕ) → b < 256 → from_byte b < 2 ^ 32
byte_word b h = test_word (nat_lt b 128) b (b + (2 ^ 32 - 256)) (λ e. omega arith) (λ e. omega arith)

half_word : (b : ℕ) → b < 65536 → from_half b < 2 ^ 32
half_word b h = test_word (nat_lt b 32768) b (b + (2 ^ 32 - 65536)) (λ e. omega arith) (λ e. omega arith)

load_word : (op : Op) (byte : ℕ → ℕ) (a : ℕ) → ((a : ℕ) → byte a < 256) → load_value op byte a < 2 ^ 32
load_word Lb byte a h = byte_word (byte a) (h a)
load_word Lh byte a h = half_word (byte a + 256 * byte (a + 1)) (omega (arith, h a, h (a + 1)))
load_word Lw byte a h = omega (arith, h a, h (a + 1), h (a + 2), h (a + 3))
load_word Lbu byte a h = omega (arith, h a)
load_word Lhu byte a h = omega (arith, h a, h (a + 1))
load_word op byte a h = omega arith

-- the operands of a step are words
pub record Operands (x : Step) : Type 0 where
  pub vj : x.vj < 2 ^ 32
  pub vk : x.vk < 2 ^ 32
  pub imm : x.instr.imm < 2 ^ 32

second_word : (f : Form) (x : Step) → Operands x → second_at f x < 2 ^ 32
second_word forms.Register x h = h.vk
second_word f x h = h.imm

unit_word : (pool : Option PoolId) (op : Op) (x : Step) (byte : ℕ → ℕ) → Operands x → ((a : ℕ) → byte a < 256)
    → unit_result pool op x byte < 2 ^ 32
unit_word (Some pools.Alu) op x byte h b =
    alu_word op x.vj (second_at (form_of op) x) h.vj (second_word (form_of op) x h)
unit_word (Some pools.Mul) op x byte h b = muldiv_word op x.vj x.vk h.vj h.vk
unit_word (Some pools.Div) op x byte h b = muldiv_word op x.vj x.vk h.vj h.vk
unit_word (Some pools.Load) op x byte h b = load_word op byte (address_of x) b
unit_word pool op x byte h b = omega arith

pub result_word : (op : Op) (x : Step) (byte : ℕ → ℕ) → Operands x → ((a : ℕ) → byte a < 256)
    → result_at op x byte < 2 ^ 32
result_word Lui x byte h b = h.imm
result_word Auipc x byte h b = sum_word x.pc x.instr.imm
result_word Jal x byte h b = sum_word x.pc 4
result_word Jalr x byte h b = sum_word x.pc 4
result_word op x byte h b = unit_word (pool_of op) op x byte h b

pub next_word : (op : Op) (x : Step) → next_at op x < 2 ^ 32
next_word Jal x = sum_word x.pc x.instr.imm
next_word Jalr x = omega (arith, sum_word x.vj x.instr.imm)
next_word op x = test_word (is_taken op x.vj x.vk) (sum x.pc x.instr.imm) (sum x.pc 4) (λ e. sum_word x.pc x.instr.imm)
    (λ e. sum_word x.pc 4)
