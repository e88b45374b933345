-- Registers and memory as a whole after a history, and operands that aren't read.
use Rattle.std.proofs.Common.{◌≡◌, ℕ, ◌+◌, ◌-◌, ◌<◌, true, false, List, [], ◌∷◌, ◌++◌, length, Option, Some, None}
use Rattle.std.proofs.Common.{refl, sym, ap, ◌∙◌, subst, arith}
use Rattle.std.specs.Prelude.{IsSome, slice_index, option_map}
use Rattle.std.specs.List.{list_any}
use Rattle.std.proofs.lemmas.Bool.{or_parts}
use Rattle.std.proofs.lemmas.List.{ext_get_or}
use Rattle.tomex_image.specs.Image.{Loaded}
use Rattle.tomex_rvdec.specs.declared.op.Op.{Op}
use Rattle.tomex_rvdec.specs.declared.op.Op.TheVariants.{Fence}
use Rattle.tomex_rvdec.specs.declared.op.Form.{Form}
use Rattle.tomex_rvdec.specs.declared.op.Form.TheVariants as forms
use Rattle.tomex_rvdec.specs.Instruction.{Instruction}
use Rattle.tomex_rvdec.specs.Meaning.{form_of, meaning, operands_at, selection}
use Rattle.tomex_rvdec.specs.Operands.{pool_of, sources_at, sources_of}
use Rattle.tomex_rvdec.proofs.Meaning.{op_of_operands}
use Rattle.tomex_rvexec.specs.declared.step.Step.{Step}
use Rattle.tomex_rvexec.specs.Flow.{IsState}
use Rattle.tomex_rvexec.specs.Results.{overwrites, result_of, stored_byte}
use Rattle.tomex_rvexec.specs.History.{Follows, HasBytesAfter, Leaves, byte_after, register_after}
use Rattle.tomex_rvexec.specs.Machine.{State}
use Rattle.tomex_rvexec.specs.Memory.{word_read}
use Rattle.tomex_rvexec.specs.Run.{start_of}
use Rattle.tomex_rvexec.specs.Steps.{j_of, k_of, operand, step_dest, step_pool, is_number}
use Rattle.tomex_rvexec.proofs.FlowSteps.{never_zero}

pub same_registers : (i : Loaded) (steps : List Step) (s : State) (regs : List ℕ) → Leaves i steps s → IsState s
    → length regs ≡ 32 → ((r : ℕ) → r < 32 → slice_index regs r ≡ register_after i steps r) → regs ≡ s.regs
same_registers i steps s regs l ok many each =
    ext_get_or 0 regs s.regs (many ∙ sym ok.registers) (λ r h. let low : r < 32 = omega arith in
    each r low ∙ sym (l.registers r low))

pub same_memory : (i : Loaded) (steps : List Step) (s : State) (bytes : List ℕ) → Leaves i steps s → IsState s
    → HasBytesAfter i steps bytes → bytes ≡ s.memory
same_memory i steps s bytes l ok after =
    let size : length s.memory ≡ i.window.size = ok.filled ∙ ap (λ (p : Loaded). p.window.size) l.image in
    let base : s.image.window.base ≡ i.window.base = ap (λ (p : Loaded). p.window.base) l.image in
    ext_get_or 0 bytes s.memory (after.count ∙ sym size) (λ k h.
    let back : i.window.base + k - i.window.base ≡ k = omega arith in
    let here = after.each (i.window.base + k) (omega arith) (omega arith)
    ∙ sym (l.bytes (i.window.base + k) (omega arith)) in
    rw (base, back) at here)

-- x0 is zero after any steps
pub zero_after : (i : Loaded) (steps : List Step) → register_after i steps 0 ≡ 0
zero_after i [] = refl
zero_after i (x ∷ older) = rw (never_zero (form_of x.instr.op) x.instr.rd) (zero_after i older)

-- FENCE's rs1 names a register that isn't read
abbrev Unread : Form → ℕ → ℕ → Type 0
Unread f rs1 rs2 = ((f ≡ forms.Fence → ⊥) → (sources_at f rs1 rs2).j ≡ None → rs1 ≡ 0)
    × ((sources_at f rs1 rs2).k ≡ None → rs2 ≡ 0)

unread_at : (f : Form) (w : ℕ) (op : Op) → Unread f (operands_at f w op).rs1 (operands_at f w op).rs2
unread_at forms.Register w op = (λ f e. cc, λ e. cc)
unread_at forms.Store w op = (λ f e. cc, λ e. cc)
unread_at forms.Branch w op = (λ f e. cc, λ e. cc)
unread_at forms.Immediate w op = (λ f e. cc, λ e. refl)
unread_at forms.Offset w op = (λ f e. cc, λ e. refl)
unread_at forms.Shift w op = (λ f e. cc, λ e. refl)
unread_at forms.Upper w op = (λ f e. refl, λ e. refl)
unread_at forms.Jump w op = (λ f e. refl, λ e. refl)
unread_at forms.Fence w op = (λ f e. absurd (f refl), λ e. refl)
unread_at forms.Whole w op = (λ f e. refl, λ e. refl)

fence_waits_nowhere : (op : Op) → form_of op ≡ forms.Fence → pool_of op ≡ None
fence_waits_nowhere Fence e = refl
fence_waits_nowhere op e = cc

abbrev UnreadIn : Op → ℕ → ℕ → Type 0
UnreadIn op rs1 rs2 = (IsSome (pool_of op) → (sources_at (form_of op) rs1 rs2).j ≡ None → rs1 ≡ 0)
    × ((sources_at (form_of op) rs1 rs2).k ≡ None → rs2 ≡ 0)

unread_in : (w : ℕ) (y : Instruction) → meaning w ≡ Some y → UnreadIn y.op y.rs1 y.rs2
unread_in w y e = at (selection w) e
  where
    waits : (op : Op) → IsSome (pool_of op) → form_of op ≡ forms.Fence → ⊥
    waits op p f = let none = fence_waits_nowhere op f in let q = rw none at p in cc

    at : (m : Option Op) → option_map (λ op. operands_at (form_of op) w op) m ≡ Some y → UnreadIn y.op y.rs1 y.rs2
    at None e = cc
    at (Some op) e =
        let z = operands_at (form_of op) w op in
        let u = unread_at (form_of op) w op in
        let same : z ≡ y = cc in
        subst (λ (v : Instruction). UnreadIn v.op v.rs1 v.rs2) same
        (subst (λ o. UnreadIn o z.rs1 z.rs2) (sym (op_of_operands (form_of op) w op)) (λ p e. u.0 (waits op p) e, u.1))

not_read : {A B : Type 0} (f : A → B) (o : Option A) → option_map f o ≡ None → o ≡ None
not_read f None e = refl
not_read f (Some a) e = cc

pub unread_j : (i : Loaded) (older : List Step) (x : Step) → Follows i older x → IsSome (step_pool x) → j_of x ≡ None
    → x.vj ≡ 0
unread_j i older x h p e =
    let z : x.instr.rs1 ≡ 0 = (unread_in (word_read i.memory (x.pc - i.window.base)) x.instr h.instr).0 p
    (not_read (operand x.vj) (sources_of x.instr).j e) in
    h.vj ∙ (ap (λ r. register_after i older r) z ∙ zero_after i older)

pub unread_k : (i : Loaded) (older : List Step) (x : Step) → Follows i older x → k_of x ≡ None → x.vk ≡ 0
unread_k i older x h e =
    let z : x.instr.rs2 ≡ 0 = (unread_in (word_read i.memory (x.pc - i.window.base)) x.instr h.instr).1
    (not_read (operand x.vk) (sources_of x.instr).k e) in
    h.vk ∙ (ap (λ r. register_after i older r) z ∙ zero_after i older)

-- the youngest that writes a register gives its value, the youngest store on a byte the byte
pub youngest_writer : (i : Loaded) (newer older : List Step) (x : Step) (r : ℕ)
    → list_any (λ (y : Step). is_number (step_dest y) r) newer ≡ false → is_number (step_dest x) r ≡ true
    → register_after i (newer ++ x ∷ older) r ≡ result_of x (byte_after i older)
youngest_writer i [] older x r none h = rw h refl
youngest_writer i (y ∷ newer) older x r none h =
    let two = or_parts (is_number (step_dest y) r) (list_any (λ (y : Step). is_number (step_dest y) r) newer) none in
    let first : is_number (step_dest y) r ≡ false = two.0 in
    rw first (youngest_writer i newer older x r two.1 h)

pub no_writer : (i : Loaded) (steps : List Step) (r : ℕ) → list_any (λ (y : Step). is_number (step_dest y) r) steps
    ≡ false → register_after i steps r ≡ slice_index (start_of i).regs r
no_writer i [] r none = refl
no_writer i (y ∷ steps) r none =
    let two = or_parts (is_number (step_dest y) r) (list_any (λ (y : Step). is_number (step_dest y) r) steps) none in
    let first : is_number (step_dest y) r ≡ false = two.0 in
    rw first (no_writer i steps r two.1)

pub youngest_store : (i : Loaded) (newer older : List Step) (x : Step) (a : ℕ)
    → list_any (λ (y : Step). overwrites y a) newer ≡ false → overwrites x a ≡ true
    → byte_after i (newer ++ x ∷ older) a ≡ stored_byte x a
youngest_store i [] older x a none h = rw h refl
youngest_store i (y ∷ newer) older x a none h =
    let two = or_parts (overwrites y a) (list_any (λ (y : Step). overwrites y a) newer) none in
    let first : overwrites y a ≡ false = two.0 in
    rw first (youngest_store i newer older x a two.1 h)

pub no_store_on : (i : Loaded) (steps : List Step) (a : ℕ) → list_any (λ (y : Step). overwrites y a) steps ≡ false
    → byte_after i steps a ≡ slice_index i.memory (a - i.window.base)
no_store_on i [] a none = refl
no_store_on i (y ∷ steps) a none =
    let two = or_parts (overwrites y a) (list_any (λ (y : Step). overwrites y a) steps) none in
    let first : overwrites y a ≡ false = two.0 in
    rw first (no_store_on i steps a two.1)
