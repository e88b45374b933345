-- Only one step can follow a history.
use Rattle.std.proofs.Common.{◌≡◌, ◌∙◌, ℕ, ◌-◌, List, Some, refl, ap, sym}
use Rattle.std.specs.Prelude.{Ok}
use Rattle.tomex_image.specs.Image.{Loaded}
use Rattle.tomex_rvdec.specs.Instruction.{Instruction}
use Rattle.tomex_rvdec.specs.Meaning.{meaning}
use Rattle.tomex_rvexec.specs.declared.step.Step.{Step}
use Rattle.tomex_rvexec.specs.Fetch.{instruction_at}
use Rattle.tomex_rvexec.specs.History.{Follows, pc_after, register_after}
use Rattle.tomex_rvexec.specs.Memory.{word_read}

pub follows_fetched : (i : Loaded) (older : List Step) (x : Step) → Follows i older x
    → instruction_at i (pc_after i older) ≡ Ok x.instr
follows_fetched i older x follows = rw (← follows.pc) (rw (follows.fetch, follows.instr) refl)

some_same : (a b : Instruction) → Some a ≡ Some b → a ≡ b
some_same a b e = cc

abbrev step_from : Instruction → ℕ → ℕ → ℕ → Step
step_from a pc vj vk = record { instr = a; pc = pc; vj = vj; vk = vk }

same_step : (a b : Instruction) (p q j l k m : ℕ) → a ≡ b → p ≡ q → j ≡ l → k ≡ m
    → step_from a p j k ≡ step_from b q l m
same_step a b p q j l k m e f g h = rw (e, f, g, h) refl

pub follows_once : (i : Loaded) (older : List Step) (x y : Step) → Follows i older x → Follows i older y → x ≡ y
follows_once i older x y f g =
    let pc : x.pc ≡ y.pc = f.pc ∙ sym g.pc in
    let word : Some x.instr ≡ Some y.instr =
    sym f.instr ∙ (ap (λ (a : ℕ). meaning (word_read i.memory (a - i.window.base))) pc ∙ g.instr) in
    let instr : x.instr ≡ y.instr = some_same x.instr y.instr word in
    let vj : x.vj ≡ y.vj = f.vj ∙ (ap (λ (z : Instruction). register_after i older z.rs1) instr ∙ sym g.vj) in
    let vk : x.vk ≡ y.vk = f.vk ∙ (ap (λ (z : Instruction). register_after i older z.rs2) instr ∙ sym g.vk) in
    same_step x.instr y.instr x.pc y.pc x.vj y.vj x.vk y.vk instr pc vj vk
