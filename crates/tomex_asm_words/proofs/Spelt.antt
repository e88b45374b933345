-- The word that means an instruction is the one that `below` finds.
use Rattle.std.proofs.Common.{◌≡◌, ℕ, zero, suc, ◌<◌, ◌^◌, Bool, true, false, cond, refl, sym, ap, ◌∙◌, arith}
use Rattle.std.proofs.Common.{nat_eq}
use Rattle.std.proofs.lemmas.Bool.Decides.{nat_tests}
use Rattle.std.proofs.Common.{◌&&◌}
use Rattle.tomex_rvdec.specs.declared.op.Op.{Op}
use Rattle.tomex_rvdec.specs.declared.op.Form.{Form}
use Rattle.tomex_rvdec.specs.declared.op.Form.TheVariants as forms
use Rattle.tomex_rvdec.specs.Instruction.{Instruction}
use Rattle.tomex_rvdec.specs.Meaning.{Means, selects, operands_at, form_of}
use Rattle.tomex_asm_words.specs.Spelling.{are_same, below, is_meaning, word_for}

step : (n w : ℕ) (b : Bool) (rest : ℕ) → (b ≡ true → n ≡ w) → (b ≡ false → rest ≡ w) → cond b n rest ≡ w
step n w true rest f g = f refl
step n w false rest f g = g refl

absent : (test : ℕ → Bool) (n w : ℕ) → w < suc n → test w ≡ true → test n ≡ false → w < n
absent test n w h t e = grind arith

pub finds : (test : ℕ → Bool) (n w : ℕ) → w < n → test w ≡ true → ((v : ℕ) → v < n → test v ≡ true → v ≡ w)
    → below test n ≡ w
unfolding below
finds test zero w h t only = absurd (omega arith)
finds test (suc n) w h t only =
    step n w (test n) (below test n) (λ (e : test n ≡ true). only n (omega arith) e)
    (λ (e : test n ≡ false). finds test n w (absent test n w h t e) t (λ (v : ℕ) (l : v < n). only v (omega arith)))

nat_same : (n : ℕ) → nat_eq n n ≡ true
nat_same n = grind (arith, nat_tests)

same : (x : Instruction) → are_same x x ≡ true
same x = rw (nat_same x.rd, nat_same x.rs1, nat_same x.rs2, nat_same x.imm) refl

-- all four fields
fields : (x y : Instruction) → are_same x y ≡ true
    → (x.rd ≡ y.rd) × (x.rs1 ≡ y.rs1) × (x.rs2 ≡ y.rs2) × (x.imm ≡ y.imm)
fields x y e = grind (arith, nat_tests)

op_is : (form : Form) (w : ℕ) (op : Op) → (operands_at form w op).op ≡ op
op_is forms.Register w op = refl
op_is forms.Immediate w op = refl
op_is forms.Offset w op = refl
op_is forms.Shift w op = refl
op_is forms.Store w op = refl
op_is forms.Branch w op = refl
op_is forms.Upper w op = refl
op_is forms.Jump w op = refl
op_is forms.Fence w op = refl
op_is forms.Whole w op = refl

equal : (x y : Instruction) → y.op ≡ x.op
    → (x.rd ≡ y.rd) × (x.rs1 ≡ y.rs1) × (x.rs2 ≡ y.rs2) × (x.imm ≡ y.imm) → x ≡ y
equal x y o e = λ i. record { op = sym o i; rd = e.0 i; rs1 = e.1 i; rs2 = e.2 i; imm = e.3 i }

both : (a b : Bool) → a && b ≡ true → (a ≡ true) × (b ≡ true)
both a b e = grind arith

meant : (w : ℕ) (x : Instruction) → Means w x → is_meaning x w ≡ true
meant w x h =
    let s : selects x.op w ≡ true = h.1 in
    rw s (ap (are_same x) (sym h.2) ∙ same x)

means : (v : ℕ) (x : Instruction) → v < 2 ^ 32 → is_meaning x v ≡ true → Means v x
means v x l e =
    let b = both (selects x.op v) (are_same x (operands_at (form_of x.op) v x.op)) e in (
      l,
      b.0,
      equal x (operands_at (form_of x.op) v x.op) (op_is (form_of x.op) v x.op)
          (fields x (operands_at (form_of x.op) v x.op) b.1),
    )

pub spelt : (w : ℕ) (x : Instruction) → Means w x → ((v : ℕ) → Means v x → w ≡ v) → word_for x ≡ w
unfolding word_for
spelt w x h only =
    finds (is_meaning x) (2 ^ 32) w h.0 (meant w x h)
    (λ (v : ℕ) (l : v < 2 ^ 32) (e : is_meaning x v ≡ true). sym (only v (means v x l e)))
