-- The relation of the table and the function agree.
use Rattle.std.proofs.Common.{◌≡◌, ℕ, ◌<◌, ◌^◌, Option, Some, None, IsTrue, Bool, true, false, List, [], ◌∷◌, find}
use Rattle.std.proofs.Common.{cond, refl, sym, ap, subst}
use Rattle.tomex_rvdec.specs.declared.op.Op.{Op}
use Rattle.tomex_rvdec.specs.declared.op.Form.{Form}
use Rattle.tomex_rvdec.specs.declared.op.Form.TheVariants as forms
use Rattle.tomex_rvdec.specs.Instruction.{Instruction}
use Rattle.tomex_rvdec.specs.Meaning.{selects, selection, Means, IsMeant, meaning, operands_at, form_of, operations}
use Rattle.tomex_rvdec.proofs.Selection.{selected_by}

found : (p : Op → Bool) (xs : List Op) (x : Op) → find p xs ≡ Some x → IsTrue (p x)
found p [] x h = cc
found p (y ∷ ys) x h = at_test (p y) refl h (found p ys x)
  where
    at_test : (b : Bool) → p y ≡ b → cond b (Some y) (find p ys) ≡ Some x → (find p ys ≡ Some x → IsTrue (p x))
        → IsTrue (p x)
    at_test true e h later = let same : y ≡ x = cc in subst (λ z. p z ≡ true) same e
    at_test false e h later = later h

pub selected_selects : (op : Op) (w : ℕ) → selection w ≡ Some op → IsTrue (selects op w)
unfolding selection
selected_selects op w h = found (λ o. selects o w) operations op h

pub means_meaning : (w : ℕ) (x : Instruction) → Means w x → meaning w ≡ Some x
means_meaning w x m = let e : selection w ≡ Some x.op = selected_by x.op w m.1 in rw e (ap Some (sym m.2))

pub op_of_operands : (f : Form) (w : ℕ) (op : Op) → (operands_at f w op).op ≡ op
op_of_operands forms.Register w op = refl
op_of_operands forms.Immediate w op = refl
op_of_operands forms.Offset w op = refl
op_of_operands forms.Shift w op = refl
op_of_operands forms.Store w op = refl
op_of_operands forms.Branch w op = refl
op_of_operands forms.Upper w op = refl
op_of_operands forms.Jump w op = refl
op_of_operands forms.Fence w op = refl
op_of_operands forms.Whole w op = refl

means_operands : (w : ℕ) (op : Op) → w < 2 ^ 32 → IsTrue (selects op w) → Means w (operands_at (form_of op) w op)
means_operands w op short s =
    let e : op ≡ (operands_at (form_of op) w op).op = sym (op_of_operands (form_of op) w op) in
    (short, subst (λ o. IsTrue (selects o w)) e s, ap (λ o. operands_at (form_of o) w o) e)

pub meaning_means : (w : ℕ) (x : Instruction) → w < 2 ^ 32 → meaning w ≡ Some x → Means w x
meaning_means w x short h = at_selected w x (selection w) refl short h
  where
    at_selected : (w : ℕ) (x : Instruction) (o : Option Op) → selection w ≡ o → w < 2 ^ 32 → meaning w ≡ Some x
        → Means w x
    at_selected w x None e short h = let g : None ≡ Some x = rw e at h in cc
    at_selected w x (Some op) e short h =
        let g : Some (operands_at (form_of op) w op) ≡ Some x = rw e at h in
        let same : operands_at (form_of op) w op ≡ x = cc in
        subst (λ y. Means w y) same (means_operands w op short (selected_selects op w e))

pub meaning_none : (w : ℕ) → w < 2 ^ 32 → ((x : Instruction) → Means w x → ⊥) → meaning w ≡ None
meaning_none w short none = at_meaning (meaning w) refl
  where
    at_meaning : (o : Option Instruction) → meaning w ≡ o → meaning w ≡ None
    at_meaning None e = e
    at_meaning (Some x) e = absurd (none x (meaning_means w x short e))

pub encoded : (x : Instruction) (v : ℕ) → IsMeant x → ((w : ℕ) → Means w x → v ≡ w) → Means v x
unfolding IsMeant
encoded x v m only = subst (λ u. Means u x) (sym (only m.0 m.1)) m.1
