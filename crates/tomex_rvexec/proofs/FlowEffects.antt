-- The effect of each operation on the state: a lemma for each way of changing it, then the operations.
use Rattle.std.proofs.Common.{◌≡◌, ℕ, ◌+◌, ◌-◌, ◌%◌, ◌<◌, ◌≤◌, List, Option, Some, None, Bool, true, false, refl, ap}
use Rattle.std.proofs.Common.{subst, arith}
use Rattle.std.specs.Prelude.{IsTrue, nat_eq, nat_le, if◌then◌else◌, slice_set}
use Rattle.std.proofs.lemmas.Bool.{and_parts, eqb-true, leb-true}
use Rattle.tomex_rvdec.specs.declared.op.Op.{Op}
use Rattle.tomex_rvdec.specs.declared.op.Op.TheVariants.{Jal, Jalr, Beq, Bne, Blt, Bge, Bltu, Bgeu, Lb, Lh, Lw, Lbu}
use Rattle.tomex_rvdec.specs.declared.op.Op.TheVariants.{Lhu, Sb, Sh, Sw, Fence, Ecall, Ebreak}
use Rattle.tomex_rvdec.specs.Instruction.{Instruction}
use Rattle.tomex_rvdec.specs.Meaning.{form_of}
use Rattle.tomex_rvdec.specs.Operands.{dest_at, unless_zero}
use Rattle.tomex_rvexec.specs.declared.outcome.FaultKind.TheVariants.{MisalignedTarget, Access}
use Rattle.tomex_rvexec.specs.declared.step.Step.{Step}
use Rattle.tomex_rvexec.specs.Flow.{memory_of}
use Rattle.tomex_rvexec.specs.Results.{byte_in, next_at, result_at}
use Rattle.tomex_rvexec.specs.Machine.{State, Goes, Faults, base_of, holds, next_pc, with_register, writes, jumps}
use Rattle.tomex_rvexec.specs.Machine.{branches, loads, stores, executes, step_at}
use Rattle.tomex_rvexec.specs.Memory.{from_byte, from_half}
use Rattle.tomex_rvexec.specs.Memory.{byte_read, half_read, word_read, byte_written, half_written, word_written}
use Rattle.tomex_rvexec.specs.Steps.{access_size, address_of}
use Rattle.tomex_rvexec.specs.Words.{is_taken, sum}
use Rattle.tomex_rvexec.proofs.Bytes.{bytes_written, byte_is, half_is, word_is, half_loaded, word_loaded}

-- the number of bytes that an operation writes
abbrev pub stored_size : Op → ℕ
stored_size Sb = 1
stored_size Sh = 2
stored_size Sw = 4
stored_size _ = 0

abbrev pub with_dest : Option ℕ → ℕ → List ℕ → List ℕ
with_dest None v regs = regs
with_dest (Some r) v regs = slice_set regs r v

-- from s to t: the next pc, the destination with its result, and the bytes of an access, of which `stored` are
-- written
pub record Effect (s : State) (next : ℕ) (dest : Option ℕ) (result from count stored value : ℕ) (t : State) : Type 0
  where
    pub image : t.image ≡ s.image
    pub pc : t.pc ≡ next
    pub aligned : s.pc % 4 ≡ 0 → next % 4 ≡ 0
    pub regs : t.regs ≡ with_dest dest result s.regs
    pub memory : t.memory ≡ bytes_written stored s.memory (from - base_of s) value
    pub inside : 0 < count → IsTrue (holds s from count)

goes_is : (a b : State) → Goes a ≡ Goes b → a ≡ b
goes_is a b e = cc

next_aligned : (pc : ℕ) → pc % 4 ≡ 0 → sum pc 4 % 4 ≡ 0
next_aligned pc h = omega arith

with_register_is : (r v : ℕ) (regs : List ℕ) → with_register regs r v ≡ with_dest (unless_zero r) v regs
with_register_is r v regs = at (nat_eq r 0)
  where
    at : (b : Bool) → (if b then regs else slice_set regs r v) ≡ with_dest (if b then None else Some r) v regs
    at true = refl
    at false = refl

writes_effect : (s t : State) (r v from value : ℕ) → writes s r v ≡ Goes t
    → Effect s (next_pc s) (unless_zero r) v from 0 0 value t
writes_effect s t r v from value e =
    subst (λ (u : State). Effect s (next_pc s) (unless_zero r) v from 0 0 value u)
    (goes_is (record s { pc = next_pc s; regs = with_register s.regs r v }) t e)
    (record {
      image = refl;
      pc = refl;
      aligned = next_aligned s.pc;
      regs = with_register_is r v s.regs;
      memory = refl;
      inside = λ h. absurd (omega arith);
    })

jumps_effect : (s t : State) (r target from value : ℕ) → jumps s r target ≡ Goes t
    → Effect s target (unless_zero r) (next_pc s) from 0 0 value t
jumps_effect s t r target from value e = at (nat_eq (target % 4) 0) refl e
  where
    at : (b : Bool) → nat_eq (target % 4) 0 ≡ b
        → (if b then Goes (record s { pc = target; regs = with_register s.regs r (next_pc s) }) else Faults
        MisalignedTarget) ≡ Goes t → Effect s target (unless_zero r) (next_pc s) from 0 0 value t
    at true is e =
        subst (λ (u : State). Effect s target (unless_zero r) (next_pc s) from 0 0 value u)
        (goes_is (record s { pc = target; regs = with_register s.regs r (next_pc s) }) t e)
        (record {
          image = refl;
          pc = refl;
          aligned = λ h. eqb-true (target % 4) 0 is;
          regs = with_register_is r (next_pc s) s.regs;
          memory = refl;
          inside = λ h. absurd (omega arith);
        })
    at false is e = cc

goes_effect : (s t : State) (target from value : ℕ) → (s.pc % 4 ≡ 0 → target % 4 ≡ 0)
    → Goes (record s { pc = target }) ≡ Goes t → Effect s target None 0 from 0 0 value t
goes_effect s t target from value aligned e =
    subst (λ (u : State). Effect s target None 0 from 0 0 value u)
    (goes_is (record s { pc = target }) t e)
    (record {
      image = refl;
      pc = refl;
      aligned = aligned;
      regs = refl;
      memory = refl;
      inside = λ h. absurd (omega arith);
    })

branches_effect : (s t : State) (taken : Bool) (target from value : ℕ) → branches s taken target ≡ Goes t
    → Effect s (if taken then target else next_pc s) None 0 from 0 0 value t
branches_effect s t true target from value e = at (nat_eq (target % 4) 0) refl e
  where
    at : (b : Bool) → nat_eq (target % 4) 0 ≡ b
        → (if b then Goes (record s { pc = target }) else Faults MisalignedTarget) ≡ Goes t
        → Effect s target None 0 from 0 0 value t
    at true is e = goes_effect s t target from value (λ h. eqb-true (target % 4) 0 is) e
    at false is e = cc
branches_effect s t false target from value e = goes_effect s t (next_pc s) from value (next_aligned s.pc) e

above : (s : State) (address count : ℕ) → IsTrue (holds s address count) → base_of s ≤ address
above s address count h = leb-true (base_of s) address
    (and_parts (nat_le (base_of s) address) (nat_le (address + count) (base_of s + s.image.window.size)) h).0

loads_effect : (s t : State) (r address count value result : ℕ) (read : List ℕ → ℕ → ℕ)
    → (base_of s ≤ address → read s.memory (address - base_of s) ≡ result) → loads s r address count read ≡ Goes t
    → Effect s (next_pc s) (unless_zero r) result address count 0 value t
loads_effect s t r address count value result read is e = at (holds s address count) refl e
  where
    at : (b : Bool) → holds s address count ≡ b
        → (if b then writes s r (read s.memory (address - base_of s)) else Faults Access) ≡ Goes t
        → Effect s (next_pc s) (unless_zero r) result address count 0 value t
    at true here e =
        let w : Effect s (next_pc s) (unless_zero r) result address 0 0 value t =
        subst (λ (v : ℕ). Effect s (next_pc s) (unless_zero r) v address 0 0 value t) (is (above s address count here))
        (writes_effect s t r (read s.memory (address - base_of s)) address value e) in
        record { image = w.image; pc = w.pc; aligned = w.aligned; regs = w.regs; memory = w.memory; inside = λ h. here }
    at false here e = cc

stores_effect : (s t : State) (address count value : ℕ) (written : List ℕ → ℕ → List ℕ)
    → written s.memory (address - base_of s) ≡ bytes_written count s.memory (address - base_of s) value
    → stores s address count written ≡ Goes t → Effect s (next_pc s) None 0 address count count value t
stores_effect s t address count value written is e = at (holds s address count) refl e
  where
    at : (b : Bool) → holds s address count ≡ b
        → (if b then Goes (record s { pc = next_pc s; memory = written s.memory (address - base_of s) }) else Faults
        Access) ≡ Goes t → Effect s (next_pc s) None 0 address count count value t
    at true here e =
        subst (λ (u : State). Effect s (next_pc s) None 0 address count count value u)
        (goes_is (record s { pc = next_pc s; memory = written s.memory (address - base_of s) }) t e)
        (record { image = refl; pc = refl; aligned = next_aligned s.pc; regs = refl; memory = is; inside = λ h. here })
    at false here e = cc

abbrev pub Carried : Op → Step → State → State → Type 0
Carried op x s t = Effect s (next_at op x) (dest_at (form_of op) x.instr.rd) (result_at op x (byte_in (memory_of s)))
    (address_of x) (access_size op) (stored_size op) x.vk t

pub carried : (op : Op) (y : Instruction) (s t : State) → executes op (step_at s y) s ≡ Goes t
    → Carried op (step_at s y) s t
carried Jal y s t e = let x = step_at s y in jumps_effect s t y.rd (next_at Jal x) (address_of x) x.vk e
carried Jalr y s t e = let x = step_at s y in jumps_effect s t y.rd (next_at Jalr x) (address_of x) x.vk e
carried Beq y s t e = let x = step_at s y in
    branches_effect s t (is_taken Beq x.vj x.vk) (sum s.pc y.imm) (address_of x) x.vk e
carried Bne y s t e = let x = step_at s y in
    branches_effect s t (is_taken Bne x.vj x.vk) (sum s.pc y.imm) (address_of x) x.vk e
carried Blt y s t e = let x = step_at s y in
    branches_effect s t (is_taken Blt x.vj x.vk) (sum s.pc y.imm) (address_of x) x.vk e
carried Bge y s t e = let x = step_at s y in
    branches_effect s t (is_taken Bge x.vj x.vk) (sum s.pc y.imm) (address_of x) x.vk e
carried Bltu y s t e = let x = step_at s y in
    branches_effect s t (is_taken Bltu x.vj x.vk) (sum s.pc y.imm) (address_of x) x.vk e
carried Bgeu y s t e = let x = step_at s y in
    branches_effect s t (is_taken Bgeu x.vj x.vk) (sum s.pc y.imm) (address_of x) x.vk e
carried Lb y s t e = let x = step_at s y in
    loads_effect s t y.rd (address_of x) 1 x.vk (result_at Lb x (byte_in (memory_of s)))
    (λ m i. from_byte (byte_read m i)) (λ h. refl) e
carried Lh y s t e = let x = step_at s y in
    loads_effect s t y.rd (address_of x) 2 x.vk (result_at Lh x (byte_in (memory_of s)))
    (λ m i. from_half (half_read m i)) (λ h. ap from_half (half_loaded (memory_of s) (address_of x) h)) e
carried Lw y s t e = let x = step_at s y in
    loads_effect s t y.rd (address_of x) 4 x.vk (result_at Lw x (byte_in (memory_of s))) word_read
    (word_loaded (memory_of s) (address_of x)) e
carried Lbu y s t e = let x = step_at s y in
    loads_effect s t y.rd (address_of x) 1 x.vk (result_at Lbu x (byte_in (memory_of s))) byte_read (λ h. refl) e
carried Lhu y s t e = let x = step_at s y in
    loads_effect s t y.rd (address_of x) 2 x.vk (result_at Lhu x (byte_in (memory_of s))) half_read
    (half_loaded (memory_of s) (address_of x)) e
carried Sb y s t e = let x = step_at s y in
    stores_effect s t (address_of x) 1 x.vk (λ m i. byte_written m i x.vk)
    (byte_is s.memory (address_of x - base_of s) x.vk) e
carried Sh y s t e = let x = step_at s y in
    stores_effect s t (address_of x) 2 x.vk (λ m i. half_written m i x.vk)
    (half_is s.memory (address_of x - base_of s) x.vk) e
carried Sw y s t e = let x = step_at s y in
    stores_effect s t (address_of x) 4 x.vk (λ m i. word_written m i x.vk)
    (word_is s.memory (address_of x - base_of s) x.vk) e
carried Fence y s t e = let x = step_at s y in goes_effect s t (next_pc s) (address_of x) x.vk (next_aligned s.pc) e
carried Ecall y s t e = cc
carried Ebreak y s t e = cc
carried op y s t e = let x = step_at s y in
    writes_effect s t y.rd (result_at op x (byte_in (memory_of s))) (address_of x) x.vk e
