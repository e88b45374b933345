-- The value of a result that is shown is what its step wrote.
use Rattle.std.proofs.Common.{◌≡◌, ◌∙◌, ◌++◌, ℕ, true, ap, subst, sym, refl, inl, inr, append_assoc}
use Rattle.std.proofs.Common.{List, [], ◌∷◌, reverse}
use Rattle.std.proofs.Common.{Some, None}
use Rattle.std.specs.Prelude.{option_map, slice_index_or}
use Rattle.std.proofs.lemmas.Bool.{cases_Bool, eq-eqb, eqb-true}
use Rattle.std.proofs.lemmas.List.{reverse-append}
use Rattle.tomex_image.specs.Image.{Loaded}
use Rattle.tomex_rvdec.specs.Meaning.{form_of}
use Rattle.tomex_rvdec.specs.Operands.{sources_at}
use Rattle.tomex_rvdec.specs.declared.op.Form.{Form}
use Rattle.tomex_rvdec.specs.declared.op.Form.TheVariants as forms
use Rattle.tomex_rvexec.specs.History.{Follows, IsFlow, byte_after, register_after}
use Rattle.tomex_rvexec.specs.Results.{result_of}
use Rattle.tomex_rvexec.specs.Steps.{is_number, j_of, k_of, operand, step_dest}
use Rattle.tomex_rvexec.specs.declared.step.Step.{Step}
use Rattle.tomex_frames.specs.Values.{ValuesAreResults, is_read_from, value_in}

-- an operand is read from the register that the instruction names
from_j : (form : Form) (a b value r : ℕ) → is_read_from (option_map (operand value) (sources_at form a b).j) r ≡ true
    → a ≡ r
from_j forms.Register a b value r is = eqb-true a r is
from_j forms.Store a b value r is = eqb-true a r is
from_j forms.Branch a b value r is = eqb-true a r is
from_j forms.Immediate a b value r is = eqb-true a r is
from_j forms.Offset a b value r is = eqb-true a r is
from_j forms.Shift a b value r is = eqb-true a r is
from_j _ a b value r is = absurd (cc)

from_k : (form : Form) (a b value r : ℕ) → is_read_from (option_map (operand value) (sources_at form a b).k) r ≡ true
    → b ≡ r
from_k forms.Register a b value r is = eqb-true b r is
from_k forms.Store a b value r is = eqb-true b r is
from_k forms.Branch a b value r is = eqb-true b r is
from_k _ a b value r is = absurd (cc)

-- a step of a flow follows those older than it
follows_in : (i : Loaded) (newer older : List Step) (x : Step) → IsFlow i (newer ++ x ∷ older) → Follows i older x
follows_in i [] older x flow = flow.0
follows_in i (y ∷ newer) older x flow = follows_in i newer older x flow.2

turned : (x : Step) (later older : List Step) → reverse (x ∷ later) ++ older ≡ reverse later ++ x ∷ older
turned x later older =
    ap (λ (z : List Step). z ++ older) (reverse-append (x ∷ []) later) ∙ append_assoc (reverse later) (x ∷ []) older

same_value : (a b : ℕ) → Some a ≡ Some b → a ≡ b
same_value a b is = cc

no_value : {v : ℕ} → None ≡ Some v → ⊥
no_value is = absurd (cc)

-- the value is that of the register after the older steps
after_older : (i : Loaded) (older later : List Step) (r v : ℕ) (last : List ℕ) → IsFlow i (reverse later ++ older)
    → slice_index_or last r 0 ≡ register_after i (reverse later ++ older) r → value_in last r later ≡ Some v
    → v ≡ register_after i older r
after_older i older [] r v last flow end is = sym (same_value _ v is) ∙ end
after_older i older (x ∷ later) r v last flow end is =
    let on : IsFlow i (reverse later ++ x ∷ older) = subst (IsFlow i) (turned x later older) flow in
    let own : Follows i older x = follows_in i (reverse later) older x on in
    let at_end : slice_index_or last r 0 ≡ register_after i (reverse later ++ x ∷ older) r =
    end ∙ ap (λ (h : List Step). register_after i h r) (turned x later older) in
    elim (cases_Bool (is_read_from (j_of x) r)) [
      | inl j ↦
          sym (same_value x.vj v (rw j at is)) ∙ (own.vj
          ∙ ap (register_after i older) (from_j (form_of x.instr.op) x.instr.rs1 x.instr.rs2 x.vj r j))
      | inr not_j ↦ elim (cases_Bool (is_read_from (k_of x) r)) [
        | inl k ↦
            sym (same_value x.vk v (rw (not_j, k) at is)) ∙ (own.vk
            ∙ ap (register_after i older) (from_k (form_of x.instr.op) x.instr.rs1 x.instr.rs2 x.vk r k))
        | inr not_k ↦ elim (cases_Bool (is_number (step_dest x) r)) [
          | inl writes ↦ absurd (no_value (rw (not_j, not_k, writes) at is))
          | inr keeps ↦
              let same : register_after i (x ∷ older) r ≡ register_after i older r = rw keeps refl in
              after_older i (x ∷ older) later r v last on at_end (rw (not_j, not_k, keeps) at is) ∙ same
        ]
      ]
    ]

pub values_are_results : ValuesAreResults
values_are_results i older later x r v last flow dest end is =
    let writes : is_number (step_dest x) r ≡ true = rw dest (eq-eqb r r refl) in
    let written : register_after i (x ∷ older) r ≡ result_of x (byte_after i older) = rw writes refl in
    after_older i (x ∷ older) later r v last flow end is ∙ written
