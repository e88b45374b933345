-- The state after a number of steps of a run is what the history of these steps leaves.
use Rattle.std.proofs.Common.{◌≡◌, ℕ, zero, suc, ◌+◌, ◌-◌, ◌<◌, ◌≤◌, List, [], ◌∷◌, Some, None, Bool, true, false, refl}
use Rattle.std.proofs.Common.{sym, ap, ◌∙◌, subst, arith}
use Rattle.std.specs.Prelude.{IsTrue, if◌then◌else◌, nat_eq, nat_le, nat_lt}
use Rattle.std.proofs.lemmas.Bool.{and_from, and_parts, eqb-false, le-leb, leb-true, lt-ltb, ne_eqb}
use Rattle.tomex_image.specs.Image.{Loaded, IsLoaded}
use Rattle.tomex_rvdec.specs.declared.op.Op.{Op}
use Rattle.tomex_rvdec.specs.declared.op.Op.TheVariants.{Lb, Lh, Lw, Lbu, Lhu}
use Rattle.tomex_rvdec.specs.Instruction.{Instruction}
use Rattle.tomex_rvdec.specs.Meaning.{meaning}
use Rattle.tomex_rvexec.specs.declared.step.Step.{Step}
use Rattle.tomex_rvexec.specs.Flow.{Changes, IsAllowed, IsState, memory_of}
use Rattle.tomex_rvexec.specs.Results.{byte_in, covers, is_among, result_at, result_of}
use Rattle.tomex_rvexec.specs.History.{Follows, IsFlow, Leaves, byte_after, history, state_after}
use Rattle.tomex_rvexec.specs.Machine.{State, Goes, base_of, coming_of, step_at, step_of}
use Rattle.tomex_rvexec.specs.Memory.{from_byte, is_inside, word_read}
use Rattle.tomex_rvexec.specs.Run.{Leads, start_of}
use Rattle.tomex_rvexec.specs.Steps.{access_size, address_of}
use Rattle.tomex_rvexec.proofs.FlowSteps.{changes, comes}
use Rattle.tomex_rvexec.proofs.FlowStates.{allowed, fetch_inside, goes_by_step, reads_above, registers_small}
use Rattle.tomex_rvexec.proofs.FlowStates.{start_state, state_kept}

-- a result depends only on the bytes of the access
same_at : (op : Op) (x : Step) (f g : ℕ → ℕ)
    → ((a : ℕ) → address_of x ≤ a → a < address_of x + access_size op → f a ≡ g a) → result_at op x f ≡ result_at op x g
same_at Lb x f g same = ap from_byte (same (address_of x) (omega arith) (omega arith))
same_at Lh x f g same = rw (
  same (address_of x) (omega arith) (omega arith),
  same (address_of x + 1) (omega arith)
      (omega arith),
) refl
same_at Lw x f g same = rw (
  same (address_of x) (omega arith) (omega arith),
  same (address_of x + 1) (omega arith)
      (omega arith),
  same (address_of x + 2) (omega arith) (omega arith),
  same (address_of x + 3) (omega arith)
      (omega arith),
) refl
same_at Lbu x f g same = same (address_of x) (omega arith) (omega arith)
same_at Lhu x f g same = rw (
  same (address_of x) (omega arith) (omega arith),
  same (address_of x + 1) (omega arith)
      (omega arith),
) refl
same_at op x f g same = refl

covers_at : (from count a : ℕ) → from ≤ a → a < from + count
    → is_among (if nat_eq count 0 then None else Some (record { from = from; to = from + count })) a ≡ true
covers_at from count a low high =
    let e : nat_eq count 0 ≡ false = ne_eqb count 0 (omega arith) in
    rw e (and_from (nat_le from a) (nat_lt a (from + count)) (le-leb from a low) (lt-ltb a (from + count) high))

pub same_result : (x : Step) (f g : ℕ → ℕ) → ((a : ℕ) → covers x a ≡ true → f a ≡ g a) → result_of x f ≡ result_of x g
same_result x f g same = same_at x.instr.op x f g
    (λ a low high. same a (covers_at (address_of x) (access_size x.instr.op) a low high))

covered_above : (from count a base : ℕ) → (0 < count → base ≤ from)
    → is_among (if nat_eq count 0 then None else Some (record { from = from; to = from + count })) a ≡ true → base ≤ a
covered_above from count a base above h = at (nat_eq count 0) refl h
  where
    at : (b : Bool) → nat_eq count 0 ≡ b
        → is_among (if b then None else Some (record { from = from; to = from + count })) a ≡ true → base ≤ a
    at true e h = cc
    at false e h =
        let l = leb-true from a (and_parts (nat_le from a) (nat_lt a (from + count)) h).0 in
        omega (arith, l, above (omega (arith, eqb-false count 0 e)))

left_by_start : (i : Loaded) → Leaves i [] (start_of i)
left_by_start i = record { image = refl; pc = refl; registers = λ r h. refl; bytes = λ a h. refl }

left_by_step : (i : Loaded) (older : List Step) (s t : State) (x : Step) → IsState s → Leaves i older s
    → coming_of s ≡ Some x → step_of s ≡ Goes t → Leaves i (x ∷ older) t
left_by_step i older s t x ok l c e =
    let base : base_of s ≡ i.window.base = ap (λ (p : Loaded). p.window.base) l.image in
    let d : Changes s x t = changes s t x ok c e in
    let same : result_of x (byte_in (memory_of s)) ≡ result_of x (byte_after i older) =
    same_result x (byte_in (memory_of s)) (byte_after i older)
    (λ a h. l.bytes a (omega (
      arith,
      base,
      covered_above (address_of x) (access_size x.instr.op) a (base_of s)
          (reads_above s t x c e) h,
    ))) in
    record {
      image = d.image ∙ l.image;
      pc = d.pc;
      registers = λ r low. d.registers r low ∙ rw (same, l.registers r low) refl;
      bytes = λ a low. d.bytes a (omega (arith, low, base)) ∙ rw (l.bytes a low) refl;
    }

follows_at : (i : Loaded) (older : List Step) (s : State) (y : Instruction) → Leaves i older s
    → meaning (word_read s.image.memory (s.pc - base_of s)) ≡ Some y
    → IsTrue (is_inside s.image.window.base s.image.window.size s.pc 4) → Follows i older (step_at s y)
follows_at i older s y l means here =
    let small = registers_small (word_read s.image.memory (s.pc - base_of s)) y means in
    record {
      pc = l.pc;
      fetch = subst (λ (p : Loaded). IsTrue (is_inside p.window.base p.window.size s.pc 4)) l.image here;
      instr = subst (λ (p : Loaded). meaning (word_read p.memory (s.pc - p.window.base)) ≡ Some y) l.image means;
      vj = l.registers y.rs1 small.rs1;
      vk = l.registers y.rs2 small.rs2;
    }

pub follows : (i : Loaded) (older : List Step) (s : State) (x : Step) → Leaves i older s → coming_of s ≡ Some x
    → Follows i older x
follows i older s x l c =
    let o = comes s x (step_of s) c refl in
    subst (λ (z : Step). Follows i older z) o.step (follows_at i older s o.instr l o.means (fetch_inside s x c))

-- what is known about a state that a run reaches
pub record Reached (i : Loaded) (k : ℕ) (s : State) : Type 0 where
  pub state : IsState s
  pub is : s ≡ state_after i k
  pub leaves : Leaves i (history i k) s
  pub flow : IsFlow i (history i k)

reached_next : (i : Loaded) (k : ℕ) (s t : State) → Reached i k s → step_of s ≡ Goes t → Reached i (suc k) t
reached_next i k s t r e =
    let c = goes_by_step s t e in
    let x : Step = c.step in
    let here : coming_of (state_after i k) ≡ Some x = subst (λ (z : State). coming_of z ≡ Some x) r.is c.is in
    let there : step_of (state_after i k) ≡ Goes t = subst (λ (z : State). step_of z ≡ Goes t) r.is e in
    let longer : history i (suc k) ≡ x ∷ history i k = rw here refl in
    record {
      state = state_kept s t x r.state c.is e;
      is = rw there refl;
      leaves = rw longer (left_by_step i (history i k) s t x r.state r.leaves c.is e);
      flow = rw longer (
        follows i (history i k) s x r.leaves c.is,
        subst (λ (p : Loaded). IsAllowed p x) r.leaves.image
            (allowed s t x r.state c.is e),
        r.flow,
      );
    }

pub reached : (i : Loaded) (k : ℕ) (s : State) → IsLoaded i.window i.memory i.entry → Leads (start_of i) k s
    → Reached i k s
reached i zero s loaded l = subst (λ (z : State). Reached i zero z) (sym l)
    (record { state = start_state i loaded; is = refl; leaves = left_by_start i; flow = tt })
reached i (suc k) s loaded l = reached_next i k l.0 s (reached i k l.0 loaded l.1) l.2

pub run_leaves : (i : Loaded) (k : ℕ) (s : State) → IsLoaded i.window i.memory i.entry → Leads (start_of i) k s
    → Leaves i (history i k) s
run_leaves i k s loaded l = (reached i k s loaded l).leaves

pub run_state : (i : Loaded) (k : ℕ) (s : State) → IsLoaded i.window i.memory i.entry → Leads (start_of i) k s
    → IsState s
run_state i k s loaded l = (reached i k s loaded l).state

pub run_flow : (i : Loaded) (k : ℕ) (s : State) → IsLoaded i.window i.memory i.entry → Leads (start_of i) k s
    → IsFlow i (history i k)
run_flow i k s loaded l = (reached i k s loaded l).flow

pub run_follows : (i : Loaded) (k : ℕ) (s : State) (x : Step) → IsLoaded i.window i.memory i.entry
    → Leads (start_of i) k s → coming_of s ≡ Some x → Follows i (history i k) x
run_follows i k s x loaded l c = follows i (history i k) s x (reached i k s loaded l).leaves c
