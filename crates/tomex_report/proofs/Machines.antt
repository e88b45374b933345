-- The end of a machine that has ended.
use Rattle.std.proofs.Common.{◌≡◌, ℕ, ◌+◌, ◌<◌, ap, sym, ◌∙◌, subst}
use Rattle.tomex_image.specs.Image.{Loaded}
use Rattle.tomex_rvexec.specs.declared.end.End.{End}
use Rattle.tomex_rvexec.specs.Machine.{State, Ends, step_of}
use Rattle.tomex_rvexec.specs.Run.{EndsWithin, IsEnd, RunEnds}
use Rattle.tomex_texts.specs.Ends.{count_of, last_state}
use Rattle.tomex_texts.proofs.Ended.{count_is, last_is}

-- an end is that of the last state
pub record IsLast {A : Type 0} (i : Loaded) (e : End A) : Type 0 where
  pub kind : step_of (last_state i) ≡ Ends e.kind
  pub pc : e.pc ≡ (last_state i).pc
  pub steps : e.steps ≡ count_of i
  pub regs : e.regs ≡ (last_state i).regs
  pub bytes : e.memory.bytes ≡ (last_state i).memory

last_of : {A : Type 0} (i : Loaded) (e : End A) (k : ℕ) (s : State) → RunEnds i k s e.kind → k < 262144 → e.pc ≡ s.pc
    → e.steps ≡ k + 1 → e.regs ≡ s.regs → e.memory.bytes ≡ s.memory → IsLast i e
last_of i e k s ends within pc steps regs bytes =
    let last : s ≡ last_state i = sym (last_is i k s e.kind ends within) in
    record {
      kind = subst (λ (t : State). step_of t ≡ Ends e.kind) last ends.ends;
      pc = pc ∙ ap (λ (t : State). t.pc) last;
      steps = steps ∙ sym (count_is i k s e.kind ends within);
      regs = regs ∙ ap (λ (t : State). t.regs) last;
      bytes = bytes ∙ ap (λ (t : State). t.memory) last;
    }

pub is_last : {A : Type 0} (i j : Loaded) (e : End A) → EndsWithin i 262144 → j ≡ i
    → (EndsWithin j 262144 → IsEnd j 262144 e) → IsLast i e
is_last i j e ends same gives =
    let is = (rw same at gives) ends in
    last_of i e is.0 is.1 is.3 is.2 is.5 is.4 is.6 is.8
