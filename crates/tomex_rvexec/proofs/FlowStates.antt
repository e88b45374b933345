-- What steps need of a state, and what they keep of it.
use Rattle.std.proofs.Common.{◌≡◌, ℕ, ◌+◌, ◌-◌, ◌%◌, ◌<◌, ◌≤◌, List, Option, Some, None, Bool, true, false, refl, sym}
use Rattle.std.proofs.Common.{◌∙◌, subst, arith}
use Rattle.std.specs.Prelude.{IsTrue, IfSome, IsSome, nat_eq, if◌then◌else◌, option_map}
use Rattle.std.proofs.lemmas.Bool.{eqb-false}
use Rattle.tomex_image.specs.Image.{Loaded, IsLoaded}
use Rattle.tomex_rvdec.specs.declared.op.Op.{Op}
use Rattle.tomex_rvdec.specs.declared.op.Op.TheVariants.{Jal, Jalr, Beq, Bne, Blt, Bge, Bltu, Bgeu, Lb, Lh, Lw, Lbu}
use Rattle.tomex_rvdec.specs.declared.op.Op.TheVariants.{Lhu, Sb, Sh, Sw, Ecall, Ebreak}
use Rattle.tomex_rvdec.specs.declared.op.Form.{Form}
use Rattle.tomex_rvdec.specs.declared.op.Form.TheVariants as forms
use Rattle.tomex_rvdec.specs.declared.pool.PoolId.TheVariants as pools
use Rattle.tomex_rvdec.specs.Instruction.{Instruction}
use Rattle.tomex_rvdec.specs.Meaning.{form_of, meaning, operands_at, selection}
use Rattle.tomex_rvdec.specs.Operands.{dest_at, pool_of}
use Rattle.tomex_rvexec.specs.declared.outcome.EndKind.{EndKind}
use Rattle.tomex_rvexec.specs.declared.outcome.FaultKind.{FaultKind}
use Rattle.tomex_rvexec.specs.declared.outcome.FaultKind.TheVariants.{Fetch, MisalignedTarget, Access}
use Rattle.tomex_rvexec.specs.declared.step.Step.{Step}
use Rattle.tomex_rvexec.specs.declared.step.ByteRange.{ByteRange}
use Rattle.tomex_rvexec.specs.Flow.{IsAllowed, IsState, memory_of, end_at, end_of}
use Rattle.tomex_rvexec.specs.Results.{byte_in, next_at, result_of}
use Rattle.tomex_rvexec.specs.Machine.{State, Goes, Ends, Faults, base_of, branches, coming_of, executes, fetched_word}
use Rattle.tomex_rvexec.specs.Machine.{holds, jumps, loads, next_pc, outcome_of, step_at, step_of}
use Rattle.tomex_rvexec.specs.Memory.{from_byte, from_half}
use Rattle.tomex_rvexec.specs.Machine.{stores, with_register}
use Rattle.tomex_rvexec.specs.Memory.{byte_read, half_read, word_read, byte_written, half_written, word_written}
use Rattle.tomex_rvexec.specs.Run.{start_of}
use Rattle.tomex_rvexec.specs.Steps.{access_size, address_of, is_in, is_store, step_dest}
use Rattle.tomex_rvexec.specs.Words.{is_taken, sum}
use Rattle.tomex_rvexec.proofs.Bytes.{length-bytes}
use Rattle.tomex_rvexec.proofs.FlowEffects.{Carried, carried, stored_size}
use Rattle.tomex_rvexec.proofs.FlowSteps.{comes, inside, length-dest, never_zero, register_set}

-- a step that continues or ends is the step of an instruction
pub record Coming (s : State) : Type 0 where
  pub step : Step
  pub is : coming_of s ≡ Some step

pub goes_by_step : (s t : State) → step_of s ≡ Goes t → Coming s
unfolding step_of
goes_by_step s t e = at (holds s s.pc 4) (meaning (fetched_word s)) refl refl e
  where
    at : (b : Bool) (m : Option Instruction) → holds s s.pc 4 ≡ b → meaning (fetched_word s) ≡ m
        → (if b then outcome_of (option_map (step_at s) m) s else Faults Fetch) ≡ Goes t → Coming s
    at true (Some y) here means e = record { step = step_at s y; is = rw (here, means) refl }
    at true None here means e = cc
    at false m here means e = cc

pub ends_by_step : (s : State) (kind : EndKind) → step_of s ≡ Ends kind → Coming s
unfolding step_of
ends_by_step s kind e = at (holds s s.pc 4) (meaning (fetched_word s)) refl refl e
  where
    at : (b : Bool) (m : Option Instruction) → holds s s.pc 4 ≡ b → meaning (fetched_word s) ≡ m
        → (if b then outcome_of (option_map (step_at s) m) s else Faults Fetch) ≡ Ends kind → Coming s
    at true (Some y) here means e = record { step = step_at s y; is = rw (here, means) refl }
    at true None here means e = cc
    at false m here means e = cc

pub step_goes : (s t : State) → step_of s ≡ Goes t → IsSome (coming_of s)
step_goes s t e = let c = goes_by_step s t e in rw c.is refl

pub step_ends : (s : State) (kind : EndKind) → step_of s ≡ Ends kind → IsSome (coming_of s)
step_ends s kind e = let c = ends_by_step s kind e in rw c.is refl

pub fetch_inside : (s : State) (x : Step) → coming_of s ≡ Some x → IsTrue (holds s s.pc 4)
fetch_inside s x c = at (holds s s.pc 4) refl c
  where
    at : (b : Bool) → holds s s.pc 4 ≡ b
        → (if b then option_map (step_at s) (meaning (fetched_word s)) else None) ≡ Some x → IsTrue (holds s s.pc 4)
    at true here c = here
    at false here c = cc

-- registers are numbers of five bits
pub record HasRegisters (y : Instruction) : Type 0 where
  pub rd : y.rd < 32
  pub rs1 : y.rs1 < 32
  pub rs2 : y.rs2 < 32

operands_small : (f : Form) (w : ℕ) (op : Op) → HasRegisters (operands_at f w op)
operands_small forms.Register w op = record { rd = omega arith; rs1 = omega arith; rs2 = omega arith }
operands_small forms.Immediate w op = record { rd = omega arith; rs1 = omega arith; rs2 = omega arith }
operands_small forms.Offset w op = record { rd = omega arith; rs1 = omega arith; rs2 = omega arith }
operands_small forms.Shift w op = record { rd = omega arith; rs1 = omega arith; rs2 = omega arith }
operands_small forms.Store w op = record { rd = omega arith; rs1 = omega arith; rs2 = omega arith }
operands_small forms.Branch w op = record { rd = omega arith; rs1 = omega arith; rs2 = omega arith }
operands_small forms.Upper w op = record { rd = omega arith; rs1 = omega arith; rs2 = omega arith }
operands_small forms.Jump w op = record { rd = omega arith; rs1 = omega arith; rs2 = omega arith }
operands_small forms.Fence w op = record { rd = omega arith; rs1 = omega arith; rs2 = omega arith }
operands_small forms.Whole w op = record { rd = omega arith; rs1 = omega arith; rs2 = omega arith }

pub registers_small : (w : ℕ) (y : Instruction) → meaning w ≡ Some y → HasRegisters y
registers_small w y e = at (selection w) e
  where
    at : (m : Option Op) → option_map (λ op. operands_at (form_of op) w op) m ≡ Some y → HasRegisters y
    at None e = cc
    at (Some op) e = let same : operands_at (form_of op) w op ≡ y = cc in
        subst HasRegisters same (operands_small (form_of op) w op)

access_at : (s : State) (from count : ℕ) → (0 < count → IsTrue (holds s from count))
    → IfSome (if nat_eq count 0 then None else Some (record { from = from; to = from + count }))
    (λ (b : ByteRange). (s.image.window.base ≤ b.from) × (b.to ≤ s.image.window.base + s.image.window.size))
access_at s from count h = at (nat_eq count 0) refl
  where
    at : (b : Bool) → nat_eq count 0 ≡ b → IfSome (if b then None else Some (record { from = from; to = from + count }))
        (λ (b : ByteRange). (s.image.window.base ≤ b.from) × (b.to ≤ s.image.window.base + s.image.window.size))
    at true e = tt
    at false e = inside s from count (h (omega (arith, eqb-false count 0 e)))

no_end : (op : Op) (x : Step) (s t : State) → executes op x s ≡ Goes t → end_at op ≡ None
no_end Ecall x s t e = cc
no_end Ebreak x s t e = cc
no_end op x s t e = refl

pub allowed : (s t : State) (x : Step) → IsState s → coming_of s ≡ Some x → step_of s ≡ Goes t → IsAllowed s.image x
allowed s t x ok c e =
    let o = comes s x (Goes t) c e in let y = o.instr in let z = step_at s y in
    let f : Carried y.op z s t = carried y.op y s t o.outcome in
    subst (λ (z : Step). IsAllowed s.image z) o.step
    (record {
      target = f.aligned ok.aligned;
      access = access_at s (address_of z) (access_size y.op) f.inside;
      on = no_end y.op z s t o.outcome;
    })

kept : (s t : State) (y : Instruction) → IsState s → Carried y.op (step_at s y) s t → IsState t
kept s t y ok f = record {
  registers = rw (
    f.regs,
    length-dest (step_dest (step_at s y)) (result_of (step_at s y) (byte_in (memory_of s)))
        s.regs,
  ) ok.registers;
  zero = rw (
    f.regs,
    register_set (step_dest (step_at s y)) (result_of (step_at s y) (byte_in (memory_of s))) s.regs 0
        (omega (arith, ok.registers)),
    never_zero (form_of y.op) y.rd,
  ) ok.zero;
  aligned = rw f.pc (f.aligned ok.aligned);
  filled = rw (
    f.image,
    f.memory,
    length-bytes (stored_size y.op) s.memory (address_of (step_at s y) - base_of s)
        (step_at s y).vk,
  ) ok.filled;
}

pub state_kept : (s t : State) (x : Step) → IsState s → coming_of s ≡ Some x → step_of s ≡ Goes t → IsState t
state_kept s t x ok c e =
    let o = comes s x (Goes t) c e in kept s t o.instr ok (carried o.instr.op o.instr s t o.outcome)

-- a load reads at its address, which is not below the window
pub reads_above : (s t : State) (x : Step) → coming_of s ≡ Some x → step_of s ≡ Goes t → 0 < access_size x.instr.op
    → base_of s ≤ address_of x
reads_above s t x c e =
    let o = comes s x (Goes t) c e in let y = o.instr in
    let f : Carried y.op (step_at s y) s t = carried y.op y s t o.outcome in
    subst (λ (z : Step). 0 < access_size z.instr.op → base_of s ≤ address_of z) o.step
    (λ h. (inside s (address_of (step_at s y)) (access_size y.op) (f.inside h)).0)

pub start_state : (i : Loaded) → IsLoaded i.window i.memory i.entry → IsState (start_of i)
start_state i h = record { registers = refl; zero = refl; aligned = h.aligned; filled = h.filled }

-- a test of a target or an address doesn't end a program
goes_or_faults : (b : Bool) (t : State) (fault : FaultKind) (kind : EndKind)
    → (if b then Goes t else Faults fault) ≡ Ends kind → ⊥
goes_or_faults true t fault kind e = cc
goes_or_faults false t fault kind e = cc

jumps_on : (s : State) (r target : ℕ) (kind : EndKind) → jumps s r target ≡ Ends kind → ⊥
jumps_on s r target kind e = goes_or_faults (nat_eq (target % 4) 0)
    (record s { pc = target; regs = with_register s.regs r (next_pc s) }) MisalignedTarget kind e

branches_on : (s : State) (taken : Bool) (target : ℕ) (kind : EndKind) → branches s taken target ≡ Ends kind → ⊥
branches_on s true target kind e =
    goes_or_faults (nat_eq (target % 4) 0) (record s { pc = target }) MisalignedTarget kind e
branches_on s false target kind e = cc

loads_on : (s : State) (r address count : ℕ) (read : List ℕ → ℕ → ℕ) (kind : EndKind)
    → loads s r address count read ≡ Ends kind → ⊥
loads_on s r address count read kind e =
    goes_or_faults (holds s address count)
    (record s { pc = next_pc s; regs = with_register s.regs r (read s.memory (address - base_of s)) }) Access kind e

stores_on : (s : State) (address count : ℕ) (written : List ℕ → ℕ → List ℕ) (kind : EndKind)
    → stores s address count written ≡ Ends kind → ⊥
stores_on s address count written kind e =
    goes_or_faults (holds s address count)
    (record s { pc = next_pc s; memory = written s.memory (address - base_of s) }) Access kind e

ends_as : (op : Op) (x : Step) (s : State) (kind : EndKind) → executes op x s ≡ Ends kind → end_at op ≡ Some kind
ends_as Ecall x s kind e = cc
ends_as Ebreak x s kind e = cc
ends_as Jal x s kind e = absurd (jumps_on s x.instr.rd (next_at Jal (record x { pc = s.pc })) kind e)
ends_as Jalr x s kind e = absurd (jumps_on s x.instr.rd (next_at Jalr x) kind e)
ends_as Beq x s kind e = absurd (branches_on s (is_taken Beq x.vj x.vk) (sum s.pc x.instr.imm) kind e)
ends_as Bne x s kind e = absurd (branches_on s (is_taken Bne x.vj x.vk) (sum s.pc x.instr.imm) kind e)
ends_as Blt x s kind e = absurd (branches_on s (is_taken Blt x.vj x.vk) (sum s.pc x.instr.imm) kind e)
ends_as Bge x s kind e = absurd (branches_on s (is_taken Bge x.vj x.vk) (sum s.pc x.instr.imm) kind e)
ends_as Bltu x s kind e = absurd (branches_on s (is_taken Bltu x.vj x.vk) (sum s.pc x.instr.imm) kind e)
ends_as Bgeu x s kind e = absurd (branches_on s (is_taken Bgeu x.vj x.vk) (sum s.pc x.instr.imm) kind e)
ends_as Lb x s kind e = absurd (loads_on s x.instr.rd (address_of x) 1 (λ m i. from_byte (byte_read m i)) kind e)
ends_as Lh x s kind e = absurd (loads_on s x.instr.rd (address_of x) 2 (λ m i. from_half (half_read m i)) kind e)
ends_as Lw x s kind e = absurd (loads_on s x.instr.rd (address_of x) 4 word_read kind e)
ends_as Lbu x s kind e = absurd (loads_on s x.instr.rd (address_of x) 1 byte_read kind e)
ends_as Lhu x s kind e = absurd (loads_on s x.instr.rd (address_of x) 2 half_read kind e)
ends_as Sb x s kind e = absurd (stores_on s (address_of x) 1 (λ m i. byte_written m i x.vk) kind e)
ends_as Sh x s kind e = absurd (stores_on s (address_of x) 2 (λ m i. half_written m i x.vk) kind e)
ends_as Sw x s kind e = absurd (stores_on s (address_of x) 4 (λ m i. word_written m i x.vk) kind e)
ends_as op x s kind e = cc

pub ends_by : (s : State) (x : Step) (kind : EndKind) → coming_of s ≡ Some x → step_of s ≡ Ends kind
    → end_of x ≡ Some kind
ends_by s x kind c e =
    let o = comes s x (Ends kind) c e in
    subst (λ (z : Step). end_of z ≡ Some kind) o.step (ends_as o.instr.op (step_at s o.instr) s kind o.outcome)

as_ends : (op : Op) (x : Step) (s : State) (kind : EndKind) → end_at op ≡ Some kind → executes op x s ≡ Ends kind
as_ends Ecall x s kind e = cc
as_ends Ebreak x s kind e = cc
as_ends op x s kind e = cc

pub by_end : (s : State) (x : Step) (kind : EndKind) → coming_of s ≡ Some x → end_of x ≡ Some kind
    → step_of s ≡ Ends kind
by_end s x kind c e =
    let o = comes s x (step_of s) c refl in
    let k : end_at o.instr.op ≡ Some kind = subst (λ (z : Step). end_of z ≡ Some kind) (sym o.step) e in
    sym o.outcome ∙ as_ends o.instr.op (step_at s o.instr) s kind k

-- an instruction that ends a program writes nothing
no_dest : (op : Op) (rd : ℕ) (kind : EndKind) → end_at op ≡ Some kind → dest_at (form_of op) rd ≡ None
no_dest Ecall rd kind e = refl
no_dest Ebreak rd kind e = refl
no_dest op rd kind e = cc

no_bytes : (op : Op) (kind : EndKind) → end_at op ≡ Some kind → is_in pools.Store (pool_of op) ≡ false
no_bytes Ecall kind e = refl
no_bytes Ebreak kind e = refl
no_bytes op kind e = cc

pub end_writes_no_register : (x : Step) (kind : EndKind) → end_of x ≡ Some kind → step_dest x ≡ None
end_writes_no_register x kind e = no_dest x.instr.op x.instr.rd kind e

pub end_writes_no_byte : (x : Step) (kind : EndKind) → end_of x ≡ Some kind → is_store x ≡ false
end_writes_no_byte x kind e = no_bytes x.instr.op kind e
