-- The place of a step, from those of the addresses of the steps before it.
use Rattle.std.proofs.Common.{ℕ, ◌+◌, ◌<◌, ◌≤◌, ◌≡◌, ◌≢◌, ◌∙◌, refl, sym, ap, subst, arith, cond, true, false, List}
use Rattle.std.proofs.Common.{length, get_or, Some, None, eqb, ltb, ⊎_elim}
use Rattle.std.proofs.lemmas.Bool.{cases_lt, eq-eqb, eqb-true, false≢true, le-ltb, lt-ltb}
use Rattle.std.proofs.lemmas.Bool.{ne_eqb}
use Rattle.std.specs.BTreeMap.{is_at}
use Rattle.std.specs.Ordering.{is_eq, nat_cmp}
use Rattle.std.specs.declared.cmp.Ordering.TheVariants.{Less, Greater}
use Rattle.std.proofs.lemmas.List.Sums.{fails_before_first, passes_at_first}
use Rattle.tomex_rvexec.specs.declared.step.Step.{Step}
use Rattle.tomex_loops.specs.Calls.{place_of}
use Rattle.tomex_loops.specs.Places.{known_place}

known_below : (steps : List Step) (k a : ℕ) → place_of steps a < k → known_place steps k a ≡ Some (place_of steps a)
known_below steps k a h = rw (lt-ltb (place_of steps a) k h) refl

known_above : (steps : List Step) (k a : ℕ) → k ≤ place_of steps a → known_place steps k a ≡ None
known_above steps k a h = rw (le-ltb (place_of steps a) k h) refl

module _ (steps : List Step) (k : ℕ) (z : Step) (inside : k < length steps) where
  pub at_most : place_of steps (get_or steps k z).pc ≤ k
  at_most = ⊎_elim
      (λ (late : k < place_of steps (get_or steps k z).pc). absurd (false≢true
      (sym (fails_before_first (λ (x : Step). eqb x.pc (get_or steps k z).pc) steps k z late)
      ∙ eq-eqb (get_or steps k z).pc (get_or steps k z).pc refl)))
      (λ (early : place_of steps (get_or steps k z).pc ≤ k). early)
      (cases_lt k (place_of steps (get_or steps k z).pc))

  same_address : (a : ℕ) → place_of steps a ≡ k → (get_or steps k z).pc ≡ a
  same_address a e =
      let there : eqb (get_or steps (place_of steps a) z).pc a ≡ true =
      passes_at_first (λ (x : Step). eqb x.pc a) steps z (omega (arith, e)) in
      eqb-true (get_or steps k z).pc a (subst (λ (n : ℕ). eqb (get_or steps n z).pc a ≡ true) e there)

  pub found_place : (p : ℕ) → Some p ≡ known_place steps k (get_or steps k z).pc
      → (p ≡ place_of steps (get_or steps k z).pc) × (place_of steps (get_or steps k z).pc < k)
  found_place p e = ⊎_elim
      (λ (low : place_of steps (get_or steps k z).pc < k).
      let same : Some p ≡ Some (place_of steps (get_or steps k z).pc) =
      e ∙ known_below steps k (get_or steps k z).pc low in
      let is : p ≡ place_of steps (get_or steps k z).pc = cc same in (is, low))
      (λ (high : k ≤ place_of steps (get_or steps k z).pc).
      let none : Some p ≡ None = e ∙ known_above steps k (get_or steps k z).pc high in cc none)
      (cases_lt (place_of steps (get_or steps k z).pc) k)

  pub new_place : None ≡ known_place steps k (get_or steps k z).pc → k ≡ place_of steps (get_or steps k z).pc
  new_place e = ⊎_elim
      (λ (low : place_of steps (get_or steps k z).pc < k).
      let some : None ≡ Some (place_of steps (get_or steps k z).pc) =
      e ∙ known_below steps k (get_or steps k z).pc low in cc some)
      (λ (high : k ≤ place_of steps (get_or steps k z).pc). let low = at_most in omega arith)
      (cases_lt (place_of steps (get_or steps k z).pc) k)

  -- another address has no new place
  pub known_other : (a : ℕ) → place_of steps a ≢ k → known_place steps k a ≡ known_place steps (k + 1) a
  known_other a ne = ⊎_elim
      (λ (low : place_of steps a < k).
      known_below steps k a low ∙ sym (known_below steps (k + 1) a (omega (arith, low))))
      (λ (high : k ≤ place_of steps a).
      known_above steps k a high ∙ sym (known_above steps (k + 1) a (omega (arith, high, ne))))
      (cases_lt (place_of steps a) k)

  pub kept : (p : ℕ) → Some p ≡ known_place steps k (get_or steps k z).pc → (a : ℕ)
      → known_place steps k a ≡ known_place steps (k + 1) a
  kept p e a = known_other a (λ at.
      let here : (get_or steps k z).pc ≡ a = same_address a at in
      let low : place_of steps (get_or steps k z).pc < k = (found_place p e).1 in
      let low_too : place_of steps a < k = subst (λ (b : ℕ). place_of steps b < k) here low in
      omega (arith, at, low_too))

  pub grown_here : None ≡ known_place steps k (get_or steps k z).pc
      → Some k ≡ known_place steps (k + 1) (get_or steps k z).pc
  grown_here e = let is : k ≡ place_of steps (get_or steps k z).pc = new_place e in
      ap (λ (n : ℕ). Some n) is ∙ sym (known_below steps (k + 1) (get_or steps k z).pc (omega (arith, is)))

  pub grown_other : (a : ℕ) → a ≢ (get_or steps k z).pc → known_place steps k a ≡ known_place steps (k + 1) a
  grown_other a ne = known_other a (λ at. ne (sym (same_address a at)))

-- another key
pub apart : (a b : ℕ) → a ≢ b → is_at (nat_cmp a) b ≡ false
apart a b ne = let other : eqb a b ≡ false = ne_eqb a b ne in rw other
    (elim (ltb a b) as (λ t. is_eq (cond t Less Greater) ≡ false) [ true ↦ refl | false ↦ refl ])
