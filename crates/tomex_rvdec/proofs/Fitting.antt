-- Each instruction that fits its form is meant by a word: the word of its six fields.
use Rattle.std.proofs.Common.{◌≡◌, ℕ, ◌<◌, ◌^◌, ◌+◌, ◌*◌, ◌/◌, ◌%◌, refl, arith, subst}
use Rattle.std.proofs.Common.{inl, inr, sym, ◌∙◌, ap, Option, Some, None, IfNone}
use Rattle.tomex_rvdec.specs.declared.op.Op.{Op}
use Rattle.tomex_rvdec.specs.declared.op.Form.{Form}
use Rattle.tomex_rvdec.specs.declared.op.Form.TheVariants as forms
use Rattle.tomex_rvdec.specs.Fields.{field, opcode, rd_field, funct3, rs1_field, rs2_field, funct7, sign_extended}
use Rattle.tomex_rvdec.specs.Fields.{imm_i, imm_s, imm_b, imm_u, imm_j}
use Rattle.tomex_rvdec.specs.Instruction.{Instruction}
use Rattle.tomex_rvdec.specs.Meaning.{form_of, Means, IsMeant, operands_at, with_operands}
use Rattle.tomex_rvdec.specs.Fits.{IsSigned, Fits}
use Rattle.tomex_rvdec.proofs.Bases.{base_of, selected_as}
use Rattle.tomex_rvdec.proofs.Meaning.{means_meaning}

record HasFields (w f7 rs2 rs1 f3 rd code : ℕ) : Type 0 where
  short : w < 2 ^ 32
  is_code : opcode w ≡ code
  is_rd : rd_field w ≡ rd
  is_f3 : funct3 w ≡ f3
  is_rs1 : rs1_field w ≡ rs1
  is_rs2 : rs2_field w ≡ rs2
  is_f7 : funct7 w ≡ f7

has_fields : (w f7 rs2 rs1 f3 rd code : ℕ) → f7 < 128 → rs2 < 32 → rs1 < 32 → f3 < 8 → rd < 32 → code < 128
    → w ≡ f7 * 2 ^ 25 + rs2 * 2 ^ 20 + rs1 * 2 ^ 15 + f3 * 2 ^ 12 + rd * 2 ^ 7 + code
    → HasFields w f7 rs2 rs1 f3 rd code
has_fields w f7 rs2 rs1 f3 rd code a b c d e f g = record {
  short = omega arith;
  is_code = omega arith;
  is_rd = omega arith;
  is_f3 = omega arith;
  is_rs1 = omega arith;
  is_rs2 = omega arith;
  is_f7 = omega arith;
}

extended_12 : (n : ℕ) → IsSigned 12 n → sign_extended 12 (n % 2 ^ 12) ≡ n
extended_12 n (inl low) = grind arith
extended_12 n (inr high) = grind arith

extended_13 : (n : ℕ) → IsSigned 13 n → sign_extended 13 (n % 2 ^ 13) ≡ n
extended_13 n (inl low) = grind arith
extended_13 n (inr high) = grind arith

extended_21 : (n : ℕ) → IsSigned 21 n → sign_extended 21 (n % 2 ^ 21) ≡ n
extended_21 n (inl low) = grind arith
extended_21 n (inr high) = grind arith

-- the fixed bits of an operation between the operands
abbrev code_of : Op → ℕ
code_of op = opcode (base_of op)

abbrev low_of : Op → ℕ
low_of op = funct3 (base_of op)

abbrev high_of : Op → ℕ
high_of op = funct7 (base_of op)

-- a word with these fields between the fixed bits of an operation
by_fields : (op : Op) (f7 rs2 rs1 rd : ℕ) → f7 < 128 → rs2 < 32 → rs1 < 32 → rd < 32
    → (w : ℕ) × HasFields w f7 rs2 rs1 (low_of op) rd (code_of op)
by_fields op f7 rs2 rs1 rd a b c d = (
  f7 * 2 ^ 25 + rs2 * 2 ^ 20 + rs1 * 2 ^ 15 + low_of op * 2 ^ 12 + rd * 2 ^ 7 + code_of op,
  has_fields _ f7 rs2 rs1 (low_of op) rd (code_of op) a b c (omega arith) d (omega arith) refl,
)

register : (op : Op) (rd rs1 rs2 : ℕ) → form_of op ≡ forms.Register → rd < 32 → rs1 < 32 → rs2 < 32
    → IsMeant (with_operands op rd rs1 rs2 0)
unfolding IsMeant
register op rd rs1 rs2 form a b c =
    let f = by_fields op (high_of op) rs2 rs1 rd (omega arith) c b a in
    let h = f.1 in (
      f.0,
      (
        h.short,
        selected_as op f.0 h.is_code (λ x. h.is_f3) (λ x. h.is_f7) (λ x. cc),
        rw (form, h.is_rd, h.is_rs1, h.is_rs2) refl,
      ),
    )

shift : (op : Op) (rd rs1 n : ℕ) → form_of op ≡ forms.Shift → rd < 32 → rs1 < 32 → n < 32
    → IsMeant (with_operands op rd rs1 0 n)
unfolding IsMeant
shift op rd rs1 n form a b c =
    let f = by_fields op (high_of op) n rs1 rd (omega arith) c b a in
    let h = f.1 in (
      f.0,
      (
        h.short,
        selected_as op f.0 h.is_code (λ x. h.is_f3) (λ x. h.is_f7) (λ x. cc),
        rw (form, h.is_rd, h.is_rs1, h.is_rs2) refl,
      ),
    )

-- the fields of a word whose upper 12 bits are the low 12 of n
upper_12 : (w n : ℕ) → funct7 w ≡ n / 2 ^ 5 % 2 ^ 7 → rs2_field w ≡ n % 2 ^ 5 → field w 31 20 ≡ n % 2 ^ 12
upper_12 w n a b = omega arith

immediate : (op : Op) (rd rs1 n : ℕ) → form_of op ≡ forms.Immediate → rd < 32 → rs1 < 32 → IsSigned 12 n
    → IsMeant (with_operands op rd rs1 0 n)
unfolding IsMeant
immediate op rd rs1 n form a b c =
    let f = by_fields op (n / 2 ^ 5 % 2 ^ 7) (n % 2 ^ 5) rs1 rd (omega arith) (omega arith) b a in
    let h = f.1 in
    let e : imm_i f.0 ≡ n = ap (sign_extended 12) (upper_12 f.0 n h.is_f7 h.is_rs2) ∙ extended_12 n c in (
      f.0,
      (
        h.short,
        selected_as op f.0 h.is_code (λ x. h.is_f3) (λ x. cc) (λ x. cc),
        rw (form, h.is_rd, h.is_rs1, e) refl,
      ),
    )

offset : (op : Op) (rd rs1 n : ℕ) → form_of op ≡ forms.Offset → rd < 32 → rs1 < 32 → IsSigned 12 n
    → IsMeant (with_operands op rd rs1 0 n)
unfolding IsMeant
offset op rd rs1 n form a b c =
    let f = by_fields op (n / 2 ^ 5 % 2 ^ 7) (n % 2 ^ 5) rs1 rd (omega arith) (omega arith) b a in
    let h = f.1 in
    let e : imm_i f.0 ≡ n = ap (sign_extended 12) (upper_12 f.0 n h.is_f7 h.is_rs2) ∙ extended_12 n c in (
      f.0,
      (
        h.short,
        selected_as op f.0 h.is_code (λ x. h.is_f3) (λ x. cc) (λ x. cc),
        rw (form, h.is_rd, h.is_rs1, e) refl,
      ),
    )

fence : (op : Op) (rd rs1 n : ℕ) → form_of op ≡ forms.Fence → rd < 32 → rs1 < 32 → n < 2 ^ 12
    → IsMeant (with_operands op rd rs1 0 n)
unfolding IsMeant
fence op rd rs1 n form a b c =
    let f = by_fields op (n / 2 ^ 5 % 2 ^ 7) (n % 2 ^ 5) rs1 rd (omega arith) (omega arith) b a in
    let h = f.1 in
    let e : field f.0 31 20 ≡ n = upper_12 f.0 n h.is_f7 h.is_rs2 ∙ omega arith in (
      f.0,
      (
        h.short,
        selected_as op f.0 h.is_code (λ x. h.is_f3) (λ x. cc) (λ x. cc),
        rw (form, h.is_rd, h.is_rs1, e) refl,
      ),
    )

split_12 : (w n : ℕ) → funct7 w ≡ n / 2 ^ 5 % 2 ^ 7 → rd_field w ≡ n % 2 ^ 5
    → field w 31 25 * 2 ^ 5 + field w 11 7 ≡ n % 2 ^ 12
split_12 w n a b = omega arith

store : (op : Op) (rs1 rs2 n : ℕ) → form_of op ≡ forms.Store → rs1 < 32 → rs2 < 32 → IsSigned 12 n
    → IsMeant (with_operands op 0 rs1 rs2 n)
unfolding IsMeant
store op rs1 rs2 n form a b c =
    let f = by_fields op (n / 2 ^ 5 % 2 ^ 7) rs2 rs1 (n % 2 ^ 5) (omega arith) b a (omega arith) in
    let h = f.1 in
    let e : imm_s f.0 ≡ n = ap (sign_extended 12) (split_12 f.0 n h.is_f7 h.is_rd) ∙ extended_12 n c in (
      f.0,
      (
        h.short,
        selected_as op f.0 h.is_code (λ x. h.is_f3) (λ x. cc) (λ x. cc),
        rw (form, h.is_rs1, h.is_rs2, e) refl,
      ),
    )

scrambled_13 : (w n : ℕ) → funct7 w ≡ n / 2 ^ 12 % 2 * 2 ^ 6 + n / 2 ^ 5 % 2 ^ 6
    → rd_field w ≡ n / 2 % 2 ^ 4 * 2 + n / 2 ^ 11 % 2 → n ≡ n / 2 * 2
    → field w 31 31 * 2 ^ 12 + field w 7 7 * 2 ^ 11 + field w 30 25 * 2 ^ 5 + field w 11 8 * 2 ≡ n % 2 ^ 13
scrambled_13 w n a b e = omega arith

branch : (op : Op) (rs1 rs2 n : ℕ) → form_of op ≡ forms.Branch → rs1 < 32 → rs2 < 32 → IsSigned 13 n
    → n ≡ n / 2 * 2 → IsMeant (with_operands op 0 rs1 rs2 n)
unfolding IsMeant
branch op rs1 rs2 n form a b c even =
    let f = by_fields op (n / 2 ^ 12 % 2 * 2 ^ 6 + n / 2 ^ 5 % 2 ^ 6) rs2 rs1 (n / 2 % 2 ^ 4 * 2 + n / 2 ^ 11 % 2)
    (omega arith) b a (omega arith) in
    let h = f.1 in
    let e : imm_b f.0 ≡ n =
    ap (sign_extended 13) (scrambled_13 f.0 n h.is_f7 h.is_rd even) ∙ extended_13 n c in (
      f.0,
      (
        h.short,
        selected_as op f.0 h.is_code (λ x. h.is_f3) (λ x. cc) (λ x. cc),
        rw (form, h.is_rs1, h.is_rs2, e) refl,
      ),
    )

-- a word whose upper 20 bits are one field
record HasUpper (w n rd code : ℕ) : Type 0 where
  short : w < 2 ^ 32
  is_code : opcode w ≡ code
  is_rd : rd_field w ≡ rd
  is_upper : field w 31 12 ≡ n

has_upper : (w n rd code : ℕ) → n < 2 ^ 20 → rd < 32 → code < 128 → w ≡ n * 2 ^ 12 + rd * 2 ^ 7 + code
    → HasUpper w n rd code
has_upper w n rd code a b c e = record {
  short = omega arith;
  is_code = omega arith;
  is_rd = omega arith;
  is_upper = omega arith;
}

by_upper : (op : Op) (n rd : ℕ) → n < 2 ^ 20 → rd < 32 → (w : ℕ) × HasUpper w n rd (code_of op)
by_upper op n rd a b =
    (n * 2 ^ 12 + rd * 2 ^ 7 + code_of op, has_upper _ n rd (code_of op) a b (omega arith) refl)

upper : (op : Op) (rd n : ℕ) → form_of op ≡ forms.Upper → rd < 32 → n < 2 ^ 32 → n ≡ n / 2 ^ 12 * 2 ^ 12
    → IsMeant (with_operands op rd 0 0 n)
unfolding IsMeant
upper op rd n form a b c =
    let f = by_upper op (n / 2 ^ 12) rd (omega arith) a in
    let h = f.1 in
    let e : imm_u f.0 ≡ n = ap (λ k. k * 2 ^ 12) h.is_upper ∙ sym c in
    (f.0, (h.short, selected_as op f.0 h.is_code (λ x. cc) (λ x. cc) (λ x. cc), rw (form, h.is_rd, e) refl))

scrambled_21 : (w n : ℕ)
    → field w 31 12 ≡ n / 2 ^ 20 % 2 * 2 ^ 19 + n / 2 % 2 ^ 10 * 2 ^ 9 + n / 2 ^ 11 % 2 * 2 ^ 8 + n / 2 ^ 12 % 2 ^ 8
    → n ≡ n / 2 * 2
    → field w 31 31 * 2 ^ 20 + field w 19 12 * 2 ^ 12 + field w 20 20 * 2 ^ 11 + field w 30 21 * 2 ≡ n % 2 ^ 21
scrambled_21 w n a e = omega arith

jump : (op : Op) (rd n : ℕ) → form_of op ≡ forms.Jump → rd < 32 → IsSigned 21 n → n ≡ n / 2 * 2
    → IsMeant (with_operands op rd 0 0 n)
unfolding IsMeant
jump op rd n form a c even =
    let f = by_upper op
    (n / 2 ^ 20 % 2 * 2 ^ 19 + n / 2 % 2 ^ 10 * 2 ^ 9 + n / 2 ^ 11 % 2 * 2 ^ 8 + n / 2 ^ 12 % 2 ^ 8) rd
    (omega arith) a in
    let h = f.1 in
    let e : imm_j f.0 ≡ n = ap (sign_extended 21) (scrambled_21 f.0 n h.is_upper even) ∙ extended_21 n c in
    (f.0, (h.short, selected_as op f.0 h.is_code (λ x. cc) (λ x. cc) (λ x. cc), rw (form, h.is_rd, e) refl))

whole : (op : Op) → form_of op ≡ forms.Whole → IsMeant (with_operands op 0 0 0 0)
unfolding IsMeant
whole op form = (
  base_of op % 2 ^ 32,
  (
    omega arith,
    selected_as op (base_of op % 2 ^ 32) (omega arith) (λ x. omega arith)
        (λ x. omega arith) (λ x. refl),
    rw form refl,
  ),
)

fitting_form : (f : Form) (op : Op) (rd rs1 rs2 n : ℕ) → form_of op ≡ f → Fits f (with_operands op rd rs1 rs2 n)
    → IsMeant (with_operands op rd rs1 rs2 n)
fitting_form forms.Register op rd rs1 rs2 n form h = rw h.1 (register op rd rs1 rs2 form h.0.0 h.0.1 h.0.2)
fitting_form forms.Immediate op rd rs1 rs2 n form h = rw h.0.2 (immediate op rd rs1 n form h.0.0 h.0.1 h.1)
fitting_form forms.Offset op rd rs1 rs2 n form h = rw h.0.2 (offset op rd rs1 n form h.0.0 h.0.1 h.1)
fitting_form forms.Shift op rd rs1 rs2 n form h = rw h.0.2 (shift op rd rs1 n form h.0.0 h.0.1 h.1)
fitting_form forms.Store op rd rs1 rs2 n form h = rw h.0.0 (store op rs1 rs2 n form h.0.1 h.0.2 h.1)
fitting_form forms.Branch op rd rs1 rs2 n form h = rw h.0.0 (branch op rs1 rs2 n form h.0.1 h.0.2 h.1.0 h.1.1)
fitting_form forms.Upper op rd rs1 rs2 n form h = rw (h.0.1, h.0.2) (upper op rd n form h.0.0 h.1.0 h.1.1)
fitting_form forms.Jump op rd rs1 rs2 n form h = rw (h.0.1, h.0.2) (jump op rd n form h.0.0 h.1.0 h.1.1)
fitting_form forms.Fence op rd rs1 rs2 n form h = rw h.0.2 (fence op rd rs1 n form h.0.0 h.0.1 h.1)
fitting_form forms.Whole op rd rs1 rs2 n form h = rw (h.0.0, h.0.1, h.0.2, h.1) (whole op form)

pub fitting : (x : Instruction) → Fits (form_of x.op) x → IsMeant x
fitting x h = fitting_form (form_of x.op) x.op x.rd x.rs1 x.rs2 x.imm refl h

registers_low : (f : Form) (w : ℕ) (op : Op)
    → ((operands_at f w op).rd < 32) × ((operands_at f w op).rs1 < 32) × ((operands_at f w op).rs2 < 32)
registers_low forms.Register w op = (omega arith, omega arith, omega arith)
registers_low forms.Immediate w op = (omega arith, omega arith, omega arith)
registers_low forms.Offset w op = (omega arith, omega arith, omega arith)
registers_low forms.Shift w op = (omega arith, omega arith, omega arith)
registers_low forms.Store w op = (omega arith, omega arith, omega arith)
registers_low forms.Branch w op = (omega arith, omega arith, omega arith)
registers_low forms.Upper w op = (omega arith, omega arith, omega arith)
registers_low forms.Jump w op = (omega arith, omega arith, omega arith)
registers_low forms.Fence w op = (omega arith, omega arith, omega arith)
registers_low forms.Whole w op = (omega arith, omega arith, omega arith)

pub meant_registers : (x : Instruction) → IsMeant x → (x.rd < 32) × (x.rs1 < 32) × (x.rs2 < 32)
unfolding IsMeant
meant_registers x m =
    subst (λ y. (y.rd < 32) × (y.rs1 < 32) × (y.rs2 < 32)) (sym m.1.2) (registers_low (form_of x.op) m.0 x.op)

-- the only word that may mean x means y
pub is_the_meant : (x y : Instruction) (v : ℕ) → ((w : ℕ) → Means w x → v ≡ w) → Means v y → IsMeant x → y ≡ x
unfolding IsMeant
is_the_meant x y v only m x_meant =
    let n : Means v x = subst (λ u. Means u x) (sym (only x_meant.0 x_meant.1)) x_meant.1 in
    let same : Some y ≡ Some x = sym (means_meaning v y m) ∙ means_meaning v x n in
    cc

pub means_nothing : (x : Instruction) (v : ℕ) → ((w : ℕ) → Means w x → v ≡ w) → ((y : Instruction) → Means v y → ⊥)
    → IsMeant x → ⊥
unfolding IsMeant
means_nothing x v only nothing meant = nothing x (subst (λ u. Means u x) (sym (only meant.0 meant.1)) meant.1)

pub finds_none : (x : Instruction) (v : ℕ) (found : Option Instruction) → ((w : ℕ) → Means w x → v ≡ w)
    → IfNone found ((y : Instruction) → Means v y → ⊥) → found ≡ None → IsMeant x → ⊥
finds_none x v None only nothing is meant = means_nothing x v only nothing meant
finds_none x v (Some y) only nothing is meant = cc
