-- Two runs of one code, whose memories are alike except for some bytes that no step reads: they go the same way.
use Rattle.std.proofs.Common.{◌≡◌, ℕ, zero, suc, ◌+◌, ◌-◌, ◌%◌, ◌<◌, ◌≤◌, List, [], ◌∷◌, ◌++◌, Bool, true, false}
use Rattle.std.proofs.Common.{Option, Some, None, Ok, refl, sym, ◌∙◌, ap, subst, arith}
use Rattle.std.specs.Prelude.{IfSome, if◌then◌else◌, nat_eq, nat_le, nat_lt, option_map}
use Rattle.std.proofs.lemmas.Bool.{leb-true}
use Rattle.tomex_image.specs.Image.{Loaded}
use Rattle.tomex_image.specs.Window.{Span}
use Rattle.tomex_rvdec.specs.declared.op.Op.{Op}
use Rattle.tomex_rvdec.specs.declared.op.Op.TheVariants.{Jal, Jalr, Beq, Bne, Blt, Bge, Bltu, Bgeu, Lb, Lh, Lw, Lbu}
use Rattle.tomex_rvdec.specs.declared.op.Op.TheVariants.{Lhu}
use Rattle.tomex_rvdec.specs.declared.op.Op.TheVariants.{Sb, Sh, Sw, Ecall, Ebreak}
use Rattle.tomex_rvdec.specs.Meaning.{form_of, meaning}
use Rattle.tomex_rvdec.specs.Operands.{dest_at}
use Rattle.tomex_cut.specs.After.{after}
use Rattle.tomex_rvexec.specs.declared.outcome.FaultKind.TheVariants.{Access, MisalignedTarget}
use Rattle.tomex_rvexec.specs.declared.step.ByteRange.{ByteRange}
use Rattle.tomex_rvexec.specs.declared.step.Step.{Step}
use Rattle.tomex_rvexec.specs.Fetch.{word_at}
use Rattle.tomex_rvexec.specs.Flow.{IsState, memory_of}
use Rattle.tomex_rvexec.specs.Machine.{Faults, Goes, Outcome, State, base_of, branches, coming_of, executes, holds}
use Rattle.tomex_rvexec.specs.Machine.{jumps}
use Rattle.tomex_rvexec.specs.Machine.{loads, next_pc, step_at, step_of, stores, with_register, writes}
use Rattle.tomex_rvexec.specs.Memory.{byte_read, byte_written, from_byte, from_half, half_read, half_written, is_inside}
use Rattle.tomex_rvexec.specs.Memory.{word_read, word_written}
use Rattle.tomex_rvexec.specs.Results.{byte_in, covers, is_among, overwrites, result_of, stored_byte}
use Rattle.tomex_rvexec.specs.Steps.{bytes_of}
use Rattle.tomex_rvexec.specs.Trace.{steps_from}
use Rattle.tomex_rvexec.specs.Words.{is_taken, sum}
use Rattle.tomex_rvexec.proofs.FlowEffects.{Carried, carried, with_dest}
use Rattle.tomex_rvexec.proofs.FlowRuns.{same_result}
use Rattle.tomex_rvexec.proofs.FlowStates.{allowed, state_kept}
use Rattle.tomex_rvexec.proofs.FlowSteps.{changes, comes}
use Rattle.tomex_cut.proofs.Rooms.{both}
use Rattle.tomex_cut.proofs.Walks.{after_keeps, after_more, came_from, steps_more}

-- the same pc and registers, with another image and memory
abbrev pub moved : State → Loaded → List ℕ → State
moved u j m = record u { image = j; memory = m }

-- an outcome that goes on
record GoesTo (o : Outcome) : Type 0 where
  to : State
  is : o ≡ Goes to

jumps_too : (u v w : State) (r target : ℕ) → jumps u r target ≡ Goes w → GoesTo (jumps v r target)
jumps_too u v w r target e = at (nat_eq (target % 4) 0) e
  where
    at : (b : Bool) → (if b then Goes (record u { pc = target; regs = with_register u.regs r (next_pc u) })
        else Faults MisalignedTarget) ≡ Goes w
        → GoesTo (if b then Goes (record v { pc = target; regs = with_register v.regs r (next_pc v) })
        else Faults MisalignedTarget)
    at true e = record { to = record v { pc = target; regs = with_register v.regs r (next_pc v) }; is = refl }
    at false e = cc

branches_too : (u v w : State) (taken : Bool) (target : ℕ) → branches u taken target ≡ Goes w
    → GoesTo (branches v taken target)
branches_too u v w false target e = record { to = record v { pc = next_pc v }; is = refl }
branches_too u v w true target e = at (nat_eq (target % 4) 0) e
  where
    at : (b : Bool) → (if b then Goes (record u { pc = target }) else Faults MisalignedTarget) ≡ Goes w
        → GoesTo (if b then Goes (record v { pc = target }) else Faults MisalignedTarget)
    at true e = record { to = record v { pc = target }; is = refl }
    at false e = cc

loads_too : (u v w : State) (r address count : ℕ) (read : List ℕ → ℕ → ℕ)
    → holds v address count ≡ holds u address count → loads u r address count read ≡ Goes w
    → GoesTo (loads v r address count read)
loads_too u v w r address count read same e = at (holds u address count) (holds v address count) same e
  where
    at : (b c : Bool) → c ≡ b
        → (if b then writes u r (read u.memory (address - base_of u)) else Faults Access) ≡ Goes w
        → GoesTo (if c then writes v r (read v.memory (address - base_of v)) else Faults Access)
    at true true is e = record {
      to = record v { pc = next_pc v; regs = with_register v.regs r (read v.memory (address - base_of v)) };
      is = refl;
    }
    at true false is e = cc
    at false c is e = cc

stores_too : (u v w : State) (address count : ℕ) (written : List ℕ → ℕ → List ℕ)
    → holds v address count ≡ holds u address count → stores u address count written ≡ Goes w
    → GoesTo (stores v address count written)
stores_too u v w address count written same e = at (holds u address count) (holds v address count) same e
  where
    at : (b c : Bool) → c ≡ b
        → (if b then Goes (record u { pc = next_pc u; memory = written u.memory (address - base_of u) })
        else Faults Access) ≡ Goes w
        → GoesTo (if c then Goes (record v { pc = next_pc v; memory = written v.memory (address - base_of v) })
        else Faults Access)
    at true true is e = record {
      to = record v { pc = next_pc v; memory = written v.memory (address - base_of v) };
      is = refl;
    }
    at true false is e = cc
    at false c is e = cc

-- an instruction goes on with any memory of the window
goes_too : (op : Op) (x : Step) (u w : State) (j : Loaded) (m : List ℕ) → j.window ≡ u.image.window
    → executes op x u ≡ Goes w → GoesTo (executes op x (moved u j m))
goes_too Jal x u w j m same e = jumps_too u (moved u j m) w x.instr.rd (sum u.pc x.instr.imm) e
goes_too Jalr x u w j m same e = jumps_too u (moved u j m) w x.instr.rd _ e
goes_too Beq x u w j m same e = branches_too u (moved u j m) w (is_taken Beq x.vj x.vk) (sum u.pc x.instr.imm) e
goes_too Bne x u w j m same e = branches_too u (moved u j m) w (is_taken Bne x.vj x.vk) (sum u.pc x.instr.imm) e
goes_too Blt x u w j m same e = branches_too u (moved u j m) w (is_taken Blt x.vj x.vk) (sum u.pc x.instr.imm) e
goes_too Bge x u w j m same e = branches_too u (moved u j m) w (is_taken Bge x.vj x.vk) (sum u.pc x.instr.imm) e
goes_too Bltu x u w j m same e = branches_too u (moved u j m) w (is_taken Bltu x.vj x.vk) (sum u.pc x.instr.imm) e
goes_too Bgeu x u w j m same e = branches_too u (moved u j m) w (is_taken Bgeu x.vj x.vk) (sum u.pc x.instr.imm) e
goes_too Lb x u w j m same e =
    loads_too u (moved u j m) w x.instr.rd (sum x.vj x.instr.imm) 1 (λ n i. from_byte (byte_read n i))
    (ap (λ (s : Span). is_inside s.base s.size (sum x.vj x.instr.imm) 1) same) e
goes_too Lh x u w j m same e =
    loads_too u (moved u j m) w x.instr.rd (sum x.vj x.instr.imm) 2 (λ n i. from_half (half_read n i))
    (ap (λ (s : Span). is_inside s.base s.size (sum x.vj x.instr.imm) 2) same) e
goes_too Lw x u w j m same e =
    loads_too u (moved u j m) w x.instr.rd (sum x.vj x.instr.imm) 4 (λ n i. word_read n i)
    (ap (λ (s : Span). is_inside s.base s.size (sum x.vj x.instr.imm) 4) same) e
goes_too Lbu x u w j m same e =
    loads_too u (moved u j m) w x.instr.rd (sum x.vj x.instr.imm) 1 (λ n i. byte_read n i)
    (ap (λ (s : Span). is_inside s.base s.size (sum x.vj x.instr.imm) 1) same) e
goes_too Lhu x u w j m same e =
    loads_too u (moved u j m) w x.instr.rd (sum x.vj x.instr.imm) 2 (λ n i. half_read n i)
    (ap (λ (s : Span). is_inside s.base s.size (sum x.vj x.instr.imm) 2) same) e
goes_too Sb x u w j m same e =
    stores_too u (moved u j m) w (sum x.vj x.instr.imm) 1 (λ n i. byte_written n i x.vk)
    (ap (λ (s : Span). is_inside s.base s.size (sum x.vj x.instr.imm) 1) same) e
goes_too Sh x u w j m same e =
    stores_too u (moved u j m) w (sum x.vj x.instr.imm) 2 (λ n i. half_written n i x.vk)
    (ap (λ (s : Span). is_inside s.base s.size (sum x.vj x.instr.imm) 2) same) e
goes_too Sw x u w j m same e =
    stores_too u (moved u j m) w (sum x.vj x.instr.imm) 4 (λ n i. word_written n i x.vk)
    (ap (λ (s : Span). is_inside s.base s.size (sum x.vj x.instr.imm) 4) same) e
goes_too Ecall x u w j m same e = cc
goes_too Ebreak x u w j m same e = cc
goes_too op x u w j m same e = record { to = _; is = refl }

-- the same step comes, if the word at the pc is the same
pub coming_same : (u : State) (j : Loaded) (m : List ℕ) → j.window ≡ u.image.window
    → word_at j u.pc ≡ word_at u.image u.pc → coming_of (moved u j m) ≡ coming_of u
coming_same u j m same word =
    ap (λ (s : Span). if is_inside s.base s.size u.pc 4 then option_map (step_at u) (meaning (word_at j u.pc))
    else None)
    same
    ∙ ap (λ (n : ℕ). if holds u u.pc 4 then option_map (step_at u) (meaning n) else None) word

-- a step's outcome is what its instruction does
pub step_executes : (u : State) (x : Step) → coming_of u ≡ Some x → executes x.instr.op x u ≡ step_of u
step_executes u x c =
    let o = comes u x (step_of u) c refl in
    subst (λ (z : Step). executes z.instr.op z u ≡ step_of u) o.step o.outcome

step_carries : (u w : State) (x : Step) → coming_of u ≡ Some x → step_of u ≡ Goes w → Carried x.instr.op x u w
step_carries u w x c e =
    let o = comes u x (Goes w) c e in
    subst (λ (z : Step). Carried z.instr.op z u w) o.step (carried o.instr.op o.instr u w o.outcome)

-- two states are alike: the image and some bytes of memory may differ
pub record Alike (j : Loaded) (differs : ℕ → Bool) (u v : State) : Type 0 where
  pub memory : List ℕ
  pub is : v ≡ moved u j memory
  pub window : j.window ≡ u.image.window
  pub bytes : (b : ℕ) → base_of u ≤ b → differs b ≡ false
      → byte_in (memory_of v) b ≡ byte_in (memory_of u) b
  pub state : IsState u
  pub other : IsState v

-- the other state after a step
pub record GoesAlike (j : Loaded) (differs : ℕ → Bool) (w v : State) (x : Step) : Type 0 where
  pub to : State
  pub comes : coming_of v ≡ Some x
  pub goes : step_of v ≡ Goes to
  pub alike : Alike j differs w to

with_parts : (w t : State) (j : Loaded) → t.image ≡ j → t.pc ≡ w.pc → t.regs ≡ w.regs → t ≡ moved w j t.memory
with_parts w t j e f g =
    ap (λ (i : Loaded). record { image = i; pc = t.pc; regs = t.regs; memory = t.memory }) e
    ∙ (ap (λ (pc : ℕ). record { image = j; pc = pc; regs = t.regs; memory = t.memory }) f
    ∙ ap (λ (regs : List ℕ). record { image = j; pc = w.pc; regs = regs; memory = t.memory }) g)

-- the bytes of an access lie in the window
covered_above : (u w : State) (x : Step) (a : ℕ) → IsState u → coming_of u ≡ Some x → step_of u ≡ Goes w
    → covers x a ≡ true → base_of u ≤ a
covered_above u w x a h c e k = at (bytes_of x) (allowed u w x h c e).access k
  where
    at : (o : Option ByteRange)
        → IfSome o (λ b. (u.image.window.base ≤ b.from) × (b.to ≤ u.image.window.base + u.image.window.size))
        → is_among o a ≡ true → base_of u ≤ a
    at None access k = cc
    at (Some b) access k =
        let low = leb-true b.from a (both (nat_le b.from a) (nat_lt a b.to) k).0 in omega (arith, access.0, low)

-- one step
pub step_alike : (j : Loaded) (differs : ℕ → Bool) (u v w : State) (x : Step) → Alike j differs u v
    → coming_of u ≡ Some x → word_at j u.pc ≡ word_at u.image u.pc
    → ((a : ℕ) → covers x a ≡ true → differs a ≡ false) → step_of u ≡ Goes w → GoesAlike j differs w v x
step_alike j differs u v w x alike c word avoids e =
    let m = alike.memory in
    let o = moved u j m in
    let state : IsState o = subst IsState alike.is alike.other in
    let comes_too : coming_of o ≡ Some x = coming_same u j m alike.window word ∙ c in
    let on = goes_too x.instr.op x u w j m alike.window (step_executes u x c ∙ e) in
    let t = on.to in
    let goes : step_of o ≡ Goes t = sym (step_executes o x comes_too) ∙ on.is in
    let here = step_carries u w x c e in
    let there = step_carries o t x comes_too goes in
    let bytes : (b : ℕ) → base_of u ≤ b → differs b ≡ false → byte_in (memory_of o) b ≡ byte_in (memory_of u) b =
    subst (λ (s : State). (b : ℕ) → base_of u ≤ b → differs b ≡ false
    → byte_in (memory_of s) b ≡ byte_in (memory_of u) b) alike.is alike.bytes in
    let result : result_of x (byte_in (memory_of o)) ≡ result_of x (byte_in (memory_of u)) =
    same_result x (byte_in (memory_of o)) (byte_in (memory_of u))
    (λ a k. bytes a (covered_above u w x a alike.state c e k) (avoids a k)) in
    let regs : t.regs ≡ w.regs =
    there.regs
    ∙ (ap (λ (n : ℕ). with_dest (dest_at (form_of x.instr.op) x.instr.rd) n u.regs) result ∙ sym here.regs) in
    let image : t.image ≡ j = there.image in
    let is : t ≡ moved w j t.memory = with_parts w t j image (there.pc ∙ sym here.pc) regs in
    let change = changes u w x alike.state c e in
    let changed = changes o t x state comes_too goes in
    let base : base_of o ≡ base_of u = ap (λ (s : Span). s.base) alike.window in
    let after_base : base_of w ≡ base_of u = ap (λ (i : Loaded). i.window.base) change.image in
    let made : GoesAlike j differs w o x = record {
      to = t;
      comes = comes_too;
      goes = goes;
      alike = record {
        memory = t.memory;
        is = is;
        window = alike.window ∙ ap (λ (i : Loaded). i.window) (sym change.image);
        bytes = λ b low no.
            let under : base_of u ≤ b = omega (arith, after_base, low) in
            changed.bytes b (omega (arith, base, under))
            ∙ (ap (λ (n : ℕ). if overwrites x b then stored_byte x b else n) (bytes b under no)
            ∙ sym (change.bytes b under));
        state = state_kept u w x alike.state c e;
        other = state_kept o t x state comes_too goes;
      };
    } in
    subst (λ (s : State). GoesAlike j differs w s x) (sym alike.is) made

-- so do the steps, one by one: as long as each of them avoids the bytes that differ
pub record Avoids (j : Loaded) (differs : ℕ → Bool) (i : Loaded) (x : Step) : Type 0 where
  pub word : word_at j x.pc ≡ word_at i x.pc
  pub bytes : (a : ℕ) → covers x a ≡ true → differs a ≡ false

-- after n steps both runs have taken the same ones
pub record AreBoth (j : Loaded) (differs : ℕ → Bool) (s t u : State) (n : ℕ) : Type 0 where
  pub other : State
  pub reached : after t n ≡ Ok other
  pub alike : Alike j differs u other
  pub steps : steps_from n t ≡ steps_from n s

pub pc_of_coming : (u : State) (x : Step) → coming_of u ≡ Some x → x.pc ≡ u.pc
pc_of_coming u x c = let o = comes u x (step_of u) c refl in sym (ap (λ (z : Step). z.pc) o.step)

pub run_alike : (n : ℕ) (j : Loaded) (differs : ℕ → Bool) (s t u : State) → Alike j differs s t
    → ((k : ℕ) (v : State) (x : Step) → k < n → after s k ≡ Ok v → coming_of v ≡ Some x → Avoids j differs s.image x)
    → after s n ≡ Ok u → AreBoth j differs s t u n
run_alike zero j differs s t u alike avoids here =
    let same : s ≡ u = cc in
    record {
      other = t;
      reached = refl;
      alike = subst (λ (v : State). Alike j differs v t) same alike;
      steps = refl;
    }
run_alike (suc n) j differs s t u alike avoids here =
    let f = came_from s n u here in
    let b = run_alike n j differs s t f.before alike (λ k v x h. avoids k v x (omega arith)) f.reached in
    let a = avoids n f.before f.step (omega arith) f.reached f.is in
    let at = pc_of_coming f.before f.step f.is in
    let image = (after_keeps n s f.before alike.state f.reached).image in
    let word : word_at j f.before.pc ≡ word_at f.before.image f.before.pc =
    subst (λ (i : Loaded). word_at j f.before.pc ≡ word_at i f.before.pc) (sym image)
    (subst (λ (pc : ℕ). word_at j pc ≡ word_at s.image pc) at a.word) in
    let g = step_alike j differs f.before b.other u f.step b.alike f.is word a.bytes f.goes in
    let one : n + 1 ≡ suc n = omega arith in
    let mine = steps_more s f.before u n f.step f.reached f.is f.goes in
    let theirs = steps_more t b.other g.to n f.step b.reached g.comes g.goes in
    record {
      other = g.to;
      reached = subst (λ (k : ℕ). after t k ≡ Ok g.to) one (after_more t b.other g.to n b.reached g.goes);
      alike = g.alike;
      steps = subst (λ (k : ℕ). steps_from k t ≡ steps_from k s) one
          (theirs ∙ (ap (λ (xs : List Step). xs ++ f.step ∷ []) b.steps ∙ sym mine));
    }
