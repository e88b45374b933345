-- The state before the first step.
use Rattle.std.proofs.Common.{ℕ, ◌<◌, ◌≤◌, ◌≡◌, ◌∙◌, sym, ap, subst, arith, Bool, false, List, [], length, get_or}
use Rattle.std.proofs.Common.{Option, None, ⊎_elim}
use Rattle.std.specs.Prelude.{replicate, IfSome}
use Rattle.std.proofs.lemmas.Bool.{cases_lt}
use Rattle.std.proofs.lemmas.List.{get_or-replicate, get_or_past, length-replicate}
use Rattle.tomex_loops.specs.declared.finding.Stop.{Stop}
use Rattle.tomex_loops.specs.Loops.{nothing}
use Rattle.tomex_loops.specs.Ways.{AreFound, AreLower, AreStops}

pub all_alike : {X : Type 0} (n x : ℕ) (a : X) → get_or (replicate n a) x a ≡ a
all_alike n x a = ⊎_elim (λ (low : x < n). get_or-replicate n x a a low)
    (λ (high : n ≤ x). get_or_past (replicate n a) x a (let many = length-replicate n a in omega (arith, many, high)))
    (cases_lt x n)

pub fresh_stops : (n : ℕ) (stops : List Stop) (at : List (Option ℕ)) → stops ≡ [] → at ≡ replicate n None
    → AreStops stops at
fresh_stops n stops at none nowhere = rw (none, nowhere) (record {
  last = λ p h. all_alike n p None;
  before = λ k z h. absurd (omega (arith, h));
  within = λ k z h. absurd (omega (arith, h));
})

pub fresh_lower : (n : ℕ) (loops : List (Option ℕ)) → loops ≡ replicate n None → AreLower loops
fresh_lower n loops none = λ x. subst (λ (o : Option ℕ). IfSome o (λ h. h < x))
    (sym (ap (λ (xs : List (Option ℕ)). get_or xs x None) none ∙ all_alike n x (let o : Option ℕ = None in o))) tt

pub fresh_found : (n : ℕ) (heads : List Bool) (loops : List (Option ℕ)) → heads ≡ replicate n false
    → loops ≡ replicate n None → AreFound heads loops nothing
fresh_found n heads loops no_heads no_loops = record {
  same_heads = λ x h. ap (λ (xs : List Bool). get_or xs x false) no_heads ∙ all_alike n x false;
  same_loops = λ x h. ap (λ (xs : List (Option ℕ)). get_or xs x None) no_loops
      ∙ all_alike n x (let o : Option ℕ = None in o);
}

pub fresh_many : {X : Type 0} (n : ℕ) (a : X) (xs : List X) → xs ≡ replicate n a → length xs ≡ n
fresh_many n a xs is = ap (λ (ys : List _). length ys) is ∙ length-replicate n a
