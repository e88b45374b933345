-- A step changes its destination and the bytes of its store, and nothing else.
use Rattle.std.proofs.Common.{◌≡◌, ℕ, ◌+◌, ◌<◌, ◌≤◌, inl, inr, List, length, Option, Some, None, Bool, true, false}
use Rattle.std.proofs.Common.{refl, sym, ◌∙◌, subst, arith}
use Rattle.std.specs.Prelude.{IsTrue, nat_eq, nat_le, nat_lt, ◌&&◌, if◌then◌else◌, slice_index, option_map}
use Rattle.std.proofs.lemmas.Bool.{and_parts, cases_eq, eq-eqb, ne_eqb, leb-true}
use Rattle.std.proofs.lemmas.Grind.{get_or-set_at}
use Rattle.std.proofs.lemmas.List.{get_or-set_other}
use Rattle.std.proofs.Math.ListN.{length-set}
use Rattle.tomex_rvdec.specs.declared.op.Op.{Op}
use Rattle.tomex_rvdec.specs.declared.op.Op.TheVariants.{Sb, Sh, Sw}
use Rattle.tomex_rvdec.specs.declared.op.Form.{Form}
use Rattle.tomex_rvdec.specs.declared.op.Form.TheVariants as forms
use Rattle.tomex_rvdec.specs.declared.pool.PoolId.TheVariants as pools
use Rattle.tomex_rvdec.specs.Instruction.{Instruction}
use Rattle.tomex_rvdec.specs.Meaning.{meaning}
use Rattle.tomex_rvdec.specs.Operands.{dest_at, pool_of}
use Rattle.tomex_rvexec.specs.declared.outcome.FaultKind.TheVariants.{Fetch}
use Rattle.tomex_rvexec.specs.declared.step.Step.{Step}
use Rattle.tomex_rvexec.specs.Flow.{Changes, IsState, memory_of}
use Rattle.tomex_rvexec.specs.Results.{byte_in, is_among, result_of}
use Rattle.tomex_rvexec.specs.Machine.{State, Outcome, Goes, Faults, base_of, coming_of, executes, fetched_word, holds}
use Rattle.tomex_rvexec.specs.Machine.{outcome_of, step_at, step_of}
use Rattle.tomex_rvexec.specs.Steps.{access_size, address_of, is_in, step_dest, is_number}
use Rattle.tomex_rvexec.proofs.Bytes.{below_none, bytes_stored}
use Rattle.tomex_rvexec.proofs.FlowEffects.{Carried, carried, stored_size, with_dest}

-- the instruction of the next step, and the step's outcome
pub record Comes (s : State) (x : Step) (o : Outcome) : Type 0 where
  pub instr : Instruction
  pub means : meaning (fetched_word s) ≡ Some instr
  pub step : step_at s instr ≡ x
  pub outcome : executes instr.op (step_at s instr) s ≡ o

pub comes : (s : State) (x : Step) (o : Outcome) → coming_of s ≡ Some x → step_of s ≡ o → Comes s x o
unfolding step_of
comes s x o c e = at (holds s s.pc 4) (meaning (fetched_word s)) refl c e
  where
    at : (b : Bool) (m : Option Instruction) → meaning (fetched_word s) ≡ m
        → (if b then option_map (step_at s) m else None) ≡ Some x
        → (if b then outcome_of (option_map (step_at s) m) s else Faults Fetch) ≡ o → Comes s x o
    at true (Some y) is c e = record { instr = y; means = is; step = cc; outcome = e }
    at true None is c e = cc
    at false m is c e = cc

pub register_set : (dest : Option ℕ) (v : ℕ) (regs : List ℕ) (r : ℕ) → r < length regs
    → slice_index (with_dest dest v regs) r ≡ (if is_number dest r then v else slice_index regs r)
register_set None v regs r h = refl
register_set (Some q) v regs r h = elim (cases_eq r q) [
  | inl e ↦ rw (eq-eqb q r (sym e)) (get_or-set_at regs q r v 0 e (omega arith))
  | inr other ↦ rw (ne_eqb q r (λ e. other (sym e))) (get_or-set_other regs q r v 0 other)
]

pub length-dest : (dest : Option ℕ) (v : ℕ) (regs : List ℕ) → length (with_dest dest v regs) ≡ length regs
length-dest None v regs = refl
length-dest (Some q) v regs = simp length-set

pub never_zero : (f : Form) (rd : ℕ) → is_number (dest_at f rd) 0 ≡ false
never_zero forms.Store rd = refl
never_zero forms.Branch rd = refl
never_zero forms.Fence rd = refl
never_zero forms.Whole rd = refl
never_zero f rd = at (nat_eq rd 0) refl
  where
    at : (b : Bool) → nat_eq rd 0 ≡ b → is_number (if b then None else Some rd) 0 ≡ false
    at true e = refl
    at false e = e

overwrites_is : (op : Op) (from a : ℕ)
    → (is_in pools.Store (pool_of op) && is_among
    (if nat_eq (access_size op) 0 then None else Some (record { from = from; to = from + access_size op })) a)
    ≡ (nat_le from a && nat_lt a (from + stored_size op))
overwrites_is Sb from a = refl
overwrites_is Sh from a = refl
overwrites_is Sw from a = refl
overwrites_is op from a = sym (below_none from a)

no_store : (op : Op) → is_in pools.Store (pool_of op) ≡ false → stored_size op ≡ 0
no_store Sb h = cc
no_store Sh h = cc
no_store Sw h = cc
no_store op h = refl

stored_within : (op : Op) → stored_size op ≤ access_size op
stored_within Sb = omega arith
stored_within Sh = omega arith
stored_within Sw = omega arith
stored_within op = omega arith

-- the bytes of an access lie in memory
abbrev pub IsIn : State → ℕ → ℕ → Type 0
IsIn s from count = (base_of s ≤ from) × (from + count ≤ base_of s + s.image.window.size)

pub inside : (s : State) (from count : ℕ) → IsTrue (holds s from count) → IsIn s from count
inside s from count h =
    let two = and_parts (nat_le (base_of s) from) (nat_le (from + count) (base_of s + s.image.window.size)) h in
    (leb-true (base_of s) from two.0, leb-true (from + count) (base_of s + s.image.window.size) two.1)

changed : (s t : State) (y : Instruction) → IsState s → Carried y.op (step_at s y) s t → Changes s (step_at s y) t
changed s t y ok e =
    let x = step_at s y in
    record {
      image = e.image;
      pc = e.pc;
      registers = λ r low. rw e.regs (register_set (step_dest x) (result_of x (byte_in (memory_of s))) s.regs r
          (omega (arith, ok.registers, low)));
      bytes = λ a low. rw (e.image, e.memory, overwrites_is y.op (address_of x) a)
          (bytes_stored (stored_size y.op) (memory_of s) (address_of x) x.vk a low (λ h.
          let two = inside s (address_of x) (access_size y.op) (e.inside (omega (arith, h, stored_within y.op))) in
          (two.0, omega (arith, two.1, stored_within y.op, ok.filled))));
      memory = λ h. let z = no_store y.op h in e.memory ∙ rw z refl;
    }

pub changes : (s t : State) (x : Step) → IsState s → coming_of s ≡ Some x → step_of s ≡ Goes t → Changes s x t
changes s t x ok c e =
    let o = comes s x (Goes t) c e in
    subst (λ (z : Step). Changes s z t) o.step (changed s t o.instr ok (carried o.instr.op o.instr s t o.outcome))
