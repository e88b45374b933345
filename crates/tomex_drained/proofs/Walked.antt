-- The prologue's steps, one by one: their facts are those of the prologue that loads zeros.
use Rattle.std.proofs.Common.{ℕ, zero, suc, ◌+◌, ◌-◌, ◌*◌, ◌^◌, ◌<◌, ◌≤◌, ◌≡◌, ◌∙◌, arith, refl, sym, ap}
use Rattle.std.proofs.Common.{List, [], ◌∷◌, ◌++◌, map, Ok, append_assoc}
use Rattle.std.specs.Prelude.{slice_index, slice_set}
use Rattle.std.proofs.lemmas.List.{map-append}
use Rattle.tomex_image.specs.Image.{Loaded}
use Rattle.tomex_rvdec.specs.Instruction.{Instruction}
use Rattle.tomex_rvexec.specs.declared.step.Step.{Step}
use Rattle.tomex_rvexec.specs.Machine.{Goes, step_at, step_of}
use Rattle.tomex_rvexec.specs.Run.{start_of}
use Rattle.tomex_rvexec.specs.Trace.{steps_from}
use Rattle.tomex_timing.specs.Recent.{facts_of}
use Rattle.tomex_cut.specs.After.{after}
use Rattle.tomex_rvexec.specs.Words.{difference, sum}
use Rattle.tomex_cut.specs.Prologue.{HasPair, branch, jump, low_half, lower, upper}
use Rattle.tomex_cut.proofs.Entry.{Fetched, Prepared, branch_goes, comes_there, does, fetched, jump_goes, state_at}
use Rattle.tomex_cut.proofs.Entry.{writes_to}
use Rattle.tomex_cut.proofs.Walks.{after_more, steps_more}
use Rattle.tomex_drained.specs.Parts.{blank, loads, pair, prologue}

-- n steps of the run lead to an address, and their facts are those of these steps
record HasWalked (j : Loaded) (n a : ℕ) (steps : List Step) : Type 0 where
  regs : List ℕ
  reached : after (start_of j) n ≡ Ok (state_at j a regs)
  facts : map facts_of (steps_from n (start_of j)) ≡ map facts_of steps

walk_on : (j : Loaded) (n a b : ℕ) (steps : List Step) (x : Instruction) (y : Step) (w : HasWalked j n a steps)
    (regs : List ℕ) → Fetched j a x → facts_of (step_at (state_at j a w.regs) x) ≡ facts_of y
    → step_of (state_at j a w.regs) ≡ Goes (state_at j b regs) → HasWalked j (n + 1) b (steps ++ (y ∷ []))
walk_on j n a b steps x y w regs f same goes =
    let s = start_of j in
    let z = step_at (state_at j a w.regs) x in
    record {
      regs = regs;
      reached = after_more s (state_at j a w.regs) (state_at j b regs) n w.reached goes;
      facts = ap (map facts_of) (steps_more s (state_at j a w.regs) (state_at j b regs) n z w.reached
          (comes_there j a w.regs x f) goes)
          ∙ (map-append facts_of (steps_from n s) (z ∷ [])
          ∙ (ap (λ fs. fs ++ (facts_of z ∷ [])) w.facts
          ∙ (ap (λ k. map facts_of steps ++ (k ∷ [])) same
          ∙ sym (map-append facts_of steps (y ∷ [])))));
    }

-- a pair
walk_pair : (j : Loaded) (n a r v : ℕ) (steps : List Step) → HasWalked j n a steps → 1 ≤ r → a + 8 < 2 ^ 32
    → Fetched j a (upper r v) → Fetched j (a + 4) (lower r v) → HasWalked j (n + 2) (a + 8) (steps ++ pair r)
walk_pair j n a r v steps w some small f g =
    let up = difference v (low_half v) in
    let one = walk_on j n a (a + 4) steps (upper r v) (blank 0 (upper r 0)) w (slice_set w.regs r up) f refl
    (does j a w.regs (upper r v) f ∙ writes_to j a r up w.regs some (omega arith)) in
    let value = sum (slice_index one.regs r) (low_half v) in
    let two = walk_on j (n + 1) (a + 4) (a + 4 + 4) (steps ++ (blank 0 (upper r 0) ∷ [])) (lower r v)
    (blank 0 (lower r 0)) one (slice_set one.regs r value) g refl
    (does j (a + 4) one.regs (lower r v) g ∙ writes_to j (a + 4) r value one.regs some (omega arith)) in
    let count : n + 1 + 1 ≡ n + 2 = omega arith in
    let there : a + 4 + 4 ≡ a + 8 = omega arith in
    rw (count, there, append_assoc steps (blank 0 (upper r 0) ∷ []) (blank 0 (lower r 0) ∷ [])) at two

walk_loads : (n : ℕ) (j : Loaded) (hook place pc : ℕ) (regs : List ℕ) → Prepared j hook place pc regs
    → j.entry ≡ place → n ≤ 30 → HasWalked j (2 * n) (place + 8 * n) (loads n)
walk_loads zero j hook place pc regs p entry few =
    let e : place + 8 * zero ≡ j.entry = omega (arith, entry) in
    rw e (record { regs = (start_of j).regs; reached = refl; facts = refl })
walk_loads (suc n) j hook place pc regs p entry few =
    let before = walk_loads n j hook place pc regs p entry (omega arith) in
    let a = place + 8 * n in
    let v = slice_index regs (suc n) in
    let here : place + 8 * (suc n - 1) ≡ a = omega arith in
    let words : HasPair (record { base = j.window.base; bytes = j.memory }) a (suc n) v =
    rw here at (p.on_place.pairs (suc n) (omega arith) few) in
    let two = walk_pair j (2 * n) a (suc n) v (loads n) before (omega arith) (omega (arith, p.top, p.place_high))
    (fetched j a (upper (suc n) v) (omega (arith, p.place_low)) (omega (arith, p.place_high)) words.first)
    (fetched j (a + 4) (lower (suc n) v) (omega (arith, p.place_low)) (omega (arith, p.place_high)) words.second) in
    let count : 2 * n + 2 ≡ 2 * suc n = omega arith in
    let there : a + 8 ≡ place + 8 * suc n = omega arith in
    rw (count, there) at two

-- all of it
pub prologue_facts : (j : Loaded) (hook place pc : ℕ) (regs : List ℕ) → Prepared j hook place pc regs
    → j.entry ≡ place → map facts_of (steps_from 64 (start_of j)) ≡ map facts_of prologue
prologue_facts j hook place pc regs p entry =
    let loaded : HasWalked j 60 (place + 240) (loads 30) =
    walk_loads 30 j hook place pc regs p entry (omega arith) in
    let to_hook = fetched j (place + 240) (jump (place + 240) hook) (omega (arith, p.place_low))
    (omega (arith, p.place_high)) p.on_place.last in
    let jumped = walk_on j 60 (place + 240) hook (loads 30) (jump (place + 240) hook) (blank 0 (jump 0 0)) loaded
    loaded.regs to_hook refl (jump_goes j (place + 240) hook loaded.regs (omega (arith, p.top, p.place_high))
    (omega (arith, p.top, p.hook_high)) p.hook_word to_hook) in
    let words = p.on_hook.pair in
    let v = slice_index regs 31 in
    let last = walk_pair j 61 hook 31 v _ jumped (omega arith) (omega (arith, p.top, p.hook_high))
    (fetched j hook (upper 31 v) p.hook_low (omega (arith, p.hook_high)) words.first)
    (fetched j (hook + 4) (lower 31 v) (omega (arith, p.hook_low)) (omega (arith, p.hook_high)) words.second) in
    let to_part = fetched j (hook + 8) (branch (hook + 8) pc) (omega (arith, p.hook_low))
    (omega (arith, p.hook_high)) p.on_hook.last in
    let all = walk_on j 63 (hook + 8) pc _ (branch (hook + 8) pc) (blank 0 (branch 0 0)) last last.regs to_part
    refl (branch_goes j (hook + 8) pc last.regs (omega (arith, p.top, p.hook_high)) p.pc_small p.pc_word to_part) in
    all.facts
