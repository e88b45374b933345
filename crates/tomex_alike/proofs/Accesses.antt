-- Older accesses that block a step have finished: seen by their numbers, back from the youngest.
use Rattle.std.proofs.Common.{ℕ, zero, suc, ◌-◌, ◌<◌, ◌≤◌, ◌≡◌, ◌∙◌, true, false, arith, refl, sym, inl, inr}
use Rattle.std.proofs.Common.{List, [], ◌∷◌, nat_lt, not, ◌||◌}
use Rattle.std.proofs.lemmas.Bool.{cases_Bool, cases_lt, and_parts, ltb-true, lt-ltb}
use Rattle.std.proofs.lemmas.Bool.Decides.{same_from_decides}
use Rattle.tomex_rvexec.specs.declared.step.Step.{Step}
use Rattle.tomex_config.specs.Configuration.{Configuration}
use Rattle.tomex_timing.specs.declared.times.Done.{Done}
use Rattle.tomex_timing.specs.History.{is_memory}
use Rattle.tomex_timing.specs.Recurrence.{are_conflicts_finished, conflicts}
use Rattle.tomex_timing.proofs.Apart.{older_apart}
use Rattle.tomex_alike.specs.Alike.{first_access, lateness, of_access, conflicts_with, LooksLike, IsSameStep}

pub skip_access : {A : Type 0} (f : Done → A) (none : A) (d : Done) (h : List Done) (i : ℕ) → is_memory d.step ≡ false
    → of_access f none (d ∷ h) i ≡ of_access f none h i
skip_access f none d h zero e = rw e refl
skip_access f none d h (suc i) e = rw e refl

abbrev pub finish_of : List Done → ℕ → ℕ
finish_of h i = of_access (λ d. d.at.finish) 0 h i

abbrev pub AreClear : List Done → Step → ℕ → Type 0
AreClear h s t = (i : ℕ) → conflicts_with h s i ≡ true → finish_of h i < t

clear_is : (h : List Done) (s : Step) (t : ℕ) → are_conflicts_finished h s t ≡ true → AreClear h s t
clear_is [] s t e i c = absurd (cc)
clear_is (d ∷ h) s t e zero c =
    let two = and_parts (not (conflicts d.step s) || nat_lt d.at.finish t) (are_conflicts_finished h s t) e in
    elim (cases_Bool (is_memory d.step)) [
      | inl m ↦
          let k : conflicts d.step s ≡ true = rw m at c in
          rw m (ltb-true d.at.finish t (rw k at two.0))
      | inr m ↦ rw m (clear_is h s t two.1 zero (rw m at c))
    ]
clear_is (d ∷ h) s t e (suc i) c =
    let two = and_parts (not (conflicts d.step s) || nat_lt d.at.finish t) (are_conflicts_finished h s t) e in
    elim (cases_Bool (is_memory d.step)) [
      | inl m ↦ rw m (clear_is h s t two.1 i (rw m at c))
      | inr m ↦ rw m (clear_is h s t two.1 (suc i) (rw m at c))
    ]

clear_from : (h : List Done) (s : Step) (t : ℕ) → AreClear h s t → are_conflicts_finished h s t ≡ true
clear_from [] s t f = refl
clear_from (d ∷ h) s t f = elim (cases_Bool (is_memory d.step)) [
  | inl m ↦
      let rest : are_conflicts_finished h s t ≡ true =
      clear_from h s t (λ i c. rw m at (f (suc i) (rw m c))) in
      elim (cases_Bool (conflicts d.step s)) [
        | inl k ↦
            let l : d.at.finish < t = rw m at (f zero (rw m k)) in
            rw (k, lt-ltb d.at.finish t l) rest
        | inr k ↦ rw k rest
      ]
  | inr m ↦
      rw (older_apart d.step s m) (clear_from h s t
      (λ i c. rw (skip_access (λ x. x.at.finish) 0 d h i m) at
      (f i (skip_access (λ x. conflicts x.step s) false d h i m ∙ c))))
]

module _ (config : Configuration) (w : ℕ) (g h : List Done) (like : LooksLike config w g h) where
  clear_there : (x y : Step) (s t : ℕ) → IsSameStep w g h x y → first_access config g ≤ s → first_access config h ≤ t
      → s - first_access config g ≡ t - first_access config h → AreClear g x s → AreClear h y t
  clear_there x y s t same l k far f i c = elim (cases_lt i w) [
    | inl b ↦
        let e : lateness config g i ≡ lateness config h i = like.accesses i b in
        let before : finish_of g i < s = f i (same.conflicts i b ∙ c) in
        omega arith
    | inr b ↦ let z : lateness config h i ≡ 0 = (like.older i b).1 in omega arith
  ]

  clear_back : (x y : Step) (s t : ℕ) → IsSameStep w g h x y → first_access config g ≤ s → first_access config h ≤ t
      → s - first_access config g ≡ t - first_access config h → AreClear h y t → AreClear g x s
  clear_back x y s t same l k far f i c = elim (cases_lt i w) [
    | inl b ↦
        let e : lateness config g i ≡ lateness config h i = like.accesses i b in
        let before : finish_of h i < t = f i (sym (same.conflicts i b) ∙ c) in
        omega arith
    | inr b ↦ let z : lateness config g i ≡ 0 = (like.older i b).0 in omega arith
  ]

  pub clear_alike : (x y : Step) (s t : ℕ) → IsSameStep w g h x y → first_access config g ≤ s
      → first_access config h ≤ t → s - first_access config g ≡ t - first_access config h
      → are_conflicts_finished g x s ≡ are_conflicts_finished h y t
  clear_alike x y s t same l k far =
      same_from_decides {P = AreClear g x s} (are_conflicts_finished g x s) (are_conflicts_finished h y t)
      (clear_is g x s, clear_from g x s) (
        λ e. clear_back x y s t same l k far (clear_is h y t e),
        λ f. clear_from h y t (clear_there x y s t same l k far f),
      )
