-- Registers and the pc stay words of 32 bits in a run, and memory's bytes stay bytes.
use Rattle.std.proofs.Common.{◌≡◌, ℕ, zero, suc, ◌+◌, ◌-◌, ◌*◌, ◌/◌, ◌%◌, ◌^◌, ◌<◌, ◌≤◌, ◌⊎◌, inl, inr, List, length}
use Rattle.std.proofs.Common.{Option, Some, None, Bool, true, false, cond, sym, subst, arith}
use Rattle.std.specs.Prelude.{nat_lt, replicate, slice_index, slice_set, option_map}
use Rattle.std.proofs.Math.ListN.{length-set}
use Rattle.std.proofs.lemmas.Bool.{cases_eq, cases_lt}
use Rattle.std.proofs.lemmas.Grind.{get_or-set_at}
use Rattle.std.proofs.lemmas.List.{get_or-replicate, get_or-set_other, get_or_past}
use Rattle.std.proofs.lemmas.Nat.{mod_below}
use Rattle.tomex_image.specs.Image.{Loaded, IsLoaded}
use Rattle.tomex_image.specs.Window.{IsWindow}
use Rattle.tomex_rvdec.specs.declared.op.Op.{Op}
use Rattle.tomex_rvdec.specs.declared.op.Form.{Form}
use Rattle.tomex_rvdec.specs.declared.op.Form.TheVariants as forms
use Rattle.tomex_rvdec.specs.Fields.{field, sign_extended}
use Rattle.tomex_rvdec.specs.Instruction.{Instruction}
use Rattle.tomex_rvdec.specs.Meaning.{form_of, meaning, operands_at, selection}
use Rattle.tomex_rvexec.specs.Flow.{HasWords, memory_of}
use Rattle.tomex_rvexec.specs.Results.{byte_in, result_of}
use Rattle.tomex_rvexec.specs.Machine.{State, Goes, base_of, fetched_word, step_at, step_of}
use Rattle.tomex_rvexec.specs.Run.{Leads, start_of}
use Rattle.tomex_rvexec.specs.Steps.{address_of, step_dest}
use Rattle.tomex_rvexec.proofs.Bytes.{bytes_written}
use Rattle.tomex_rvexec.proofs.FlowEffects.{Carried, carried, stored_size, with_dest}
use Rattle.tomex_rvexec.proofs.FlowSteps.{comes}
use Rattle.tomex_rvexec.proofs.FlowStates.{goes_by_step}
use Rattle.tomex_rvexec.proofs.FlowWords.{next_word, result_word}

-- immediates are words
extended : (b : Bool) (n high : ℕ) → n + high < 2 ^ 32 → cond b n (n + high) < 2 ^ 32
extended true n high h = omega arith
extended false n high h = h

twelve_bits : (n : ℕ) → n < 2 ^ 12 → sign_extended 12 n < 2 ^ 32
twelve_bits n h = extended (nat_lt n (2 ^ 11)) n (2 ^ 32 - 2 ^ 12) (omega arith)

imm_word : (f : Form) (w : ℕ) (op : Op) → (operands_at f w op).imm < 2 ^ 32
imm_word forms.Register w op = omega arith
imm_word forms.Immediate w op = twelve_bits (field w 31 20) (omega arith)
imm_word forms.Offset w op = twelve_bits (field w 31 20) (omega arith)
imm_word forms.Shift w op = omega arith
imm_word forms.Store w op = twelve_bits (field w 31 25 * 2 ^ 5 + field w 11 7) (omega arith)
imm_word forms.Branch w op =
    let n = field w 31 31 * 2 ^ 12 + field w 7 7 * 2 ^ 11 + field w 30 25 * 2 ^ 5 + field w 11 8 * 2 in
    let below : n < 2 ^ 13 = omega arith in
    extended (nat_lt n (2 ^ 12)) n (2 ^ 32 - 2 ^ 13) (omega arith)
imm_word forms.Upper w op = omega arith
imm_word forms.Jump w op =
    let n = field w 31 31 * 2 ^ 20 + field w 19 12 * 2 ^ 12 + field w 20 20 * 2 ^ 11 + field w 30 21 * 2 in
    let below : n < 2 ^ 21 = omega arith in
    extended (nat_lt n (2 ^ 20)) n (2 ^ 32 - 2 ^ 21) (omega arith)
imm_word forms.Fence w op = omega arith
imm_word forms.Whole w op = omega arith

imm_means : (w : ℕ) (y : Instruction) → meaning w ≡ Some y → y.imm < 2 ^ 32
imm_means w y e = at (selection w) e
  where
    at : (m : Option Op) → option_map (λ op. operands_at (form_of op) w op) m ≡ Some y → y.imm < 2 ^ 32
    at None e = cc
    at (Some op) e = let same : operands_at (form_of op) w op ≡ y = cc in
        subst (λ (z : Instruction). z.imm < 2 ^ 32) same (imm_word (form_of op) w op)

-- a list stays below a bound
set_below : (xs : List ℕ) (i v bound : ℕ) → v < bound → ((k : ℕ) → slice_index xs k < bound) → (k : ℕ)
    → slice_index (slice_set xs i v) k < bound
set_below xs i v bound h each k = at (cases_eq k i) (cases_lt i (length xs))
  where
    at : (k ≡ i) ⊎ (k ≡ i → ⊥) → (i < length xs) ⊎ (length xs ≤ i) → slice_index (slice_set xs i v) k < bound
    at (inl e) (inl l) = rw (get_or-set_at xs i k v 0 e l) h
    at (inl e) (inr g) = rw (get_or_past (slice_set xs i v) k 0 (omega (arith, length-set {A = ℕ}))) (omega arith)
    at (inr other) l = rw (get_or-set_other xs i k v 0 other) (each k)

dest_below : (dest : Option ℕ) (v bound : ℕ) (regs : List ℕ) → v < bound → ((k : ℕ) → slice_index regs k < bound)
    → (k : ℕ) → slice_index (with_dest dest v regs) k < bound
dest_below None v bound regs h each k = each k
dest_below (Some q) v bound regs h each k = set_below regs q v bound h each k

bytes_below : (n : ℕ) (m : List ℕ) (i v : ℕ) → ((k : ℕ) → slice_index m k < 256) → (k : ℕ)
    → slice_index (bytes_written n m i v) k < 256
bytes_below zero m i v each k = each k
bytes_below (suc n) m i v each k =
    set_below (bytes_written n m i v) (i + n) (v / 256 ^ n % 256) 256 (mod_below (v / 256 ^ n) 256 (omega arith))
    (bytes_below n m i v each) k

kept_words : (s t : State) (y : Instruction) → HasWords s → y.imm < 2 ^ 32 → Carried y.op (step_at s y) s t → HasWords t
kept_words s t y ok small f =
    let x = step_at s y in
    let result = result_word y.op x (byte_in (memory_of s))
    (record { vj = ok.registers y.rs1; vk = ok.registers y.rs2; imm = small }) (λ a. ok.bytes (a - base_of s)) in
    record {
      pc = rw f.pc (next_word y.op x);
      registers = λ r. rw f.regs (dest_below (step_dest x) (result_of x (byte_in (memory_of s))) (2 ^ 32) s.regs result
          ok.registers r);
      bytes = λ k. rw f.memory (bytes_below (stored_size y.op) s.memory (address_of x - base_of s) x.vk ok.bytes k);
    }

pub words_kept : (s t : State) → HasWords s → step_of s ≡ Goes t → HasWords t
words_kept s t ok e =
    let c = goes_by_step s t e in
    let o = comes s c.step (Goes t) c.is e in
    kept_words s t o.instr ok (imm_means (fetched_word s) o.instr o.means) (carried o.instr.op o.instr s t o.outcome)

start_words : (i : Loaded) → IsWindow i.window.base i.window.size → IsLoaded i.window i.memory i.entry
    → ((k : ℕ) → slice_index i.memory k < 256) → HasWords (start_of i)
start_words i w l bytes =
    let zeros : (k : ℕ) → slice_index (replicate 32 0) k < 2 ^ 32 = λ k. elim (cases_lt k 32) [
      | inl h ↦ rw (get_or-replicate {A = ℕ} 32 k 0 0 h) (omega arith)
      | inr h ↦ rw (get_or_past {X = ℕ} (replicate 32 0) k 0 h) (omega arith)
    ] in
    record {
      pc = omega (arith, l.below, w.within);
      registers = set_below (replicate 32 0) 2 ((i.window.base + i.window.size) / 16 * 16 % 2 ^ 32) (2 ^ 32)
          (omega arith) zeros;
      bytes = bytes;
    }

pub run_words : (k : ℕ) (i : Loaded) (s : State) → IsWindow i.window.base i.window.size
    → IsLoaded i.window i.memory i.entry → ((k : ℕ) → slice_index i.memory k < 256) → Leads (start_of i) k s
    → HasWords s
run_words zero i s w l bytes leads = subst HasWords (sym leads) (start_words i w l bytes)
run_words (suc k) i s w l bytes leads = words_kept leads.0 s (run_words k i leads.0 w l bytes leads.1) leads.2
