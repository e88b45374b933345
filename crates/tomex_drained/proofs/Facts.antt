-- The recurrence reads no more of a step than its facts.
use Rattle.std.proofs.Common.{ℕ, zero, suc, ◌+◌, ◌<◌, ◌≤◌, ◌≡◌, ◌∙◌, arith, refl, sym, ap, true, false, inl, inr}
use Rattle.std.proofs.Common.{List, [], ◌∷◌, map}
use Rattle.std.specs.Prelude.{Bool, ◌&&◌, ◌||◌}
use Rattle.std.proofs.lemmas.Bool.{cases_Bool}
use Rattle.tomex_rvexec.specs.Steps.{shares_byte}
use Rattle.tomex_rvexec.specs.declared.step.Step.{Step}
use Rattle.tomex_config.specs.Configuration.{Configuration}
use Rattle.tomex_timing.specs.Ahead.{one}
use Rattle.tomex_timing.specs.declared.recent.Facts.{Facts}
use Rattle.tomex_timing.specs.declared.times.Done.{Done}
use Rattle.tomex_timing.specs.History.{is_memory}
use Rattle.tomex_timing.specs.Issue.{first_issue}
use Rattle.tomex_timing.specs.Recent.{facts_of, is_memory_pool}
use Rattle.tomex_timing.specs.Recurrence.{conflicts}
use Rattle.tomex_timing.specs.Search.{times_of}
use Rattle.tomex_alike.specs.Alike.{conflicts_with, lateness}
use Rattle.tomex_alike.specs.Laws.{AreSameSteps, done, next}
use Rattle.tomex_alike.proofs.Same.{looks_refl, step_from, without_bytes}
use Rattle.tomex_drained.specs.Drained.{FactsDecideTimes}
use Rattle.tomex_drained.proofs.Joined.{rest_later, times_first}

abbrev conflict_by : Facts → Facts → Bool
conflict_by f g = shares_byte f.bytes g.bytes && (f.is_store || g.is_store)

same_conflict : (d e x y : Step) → facts_of d ≡ facts_of e → facts_of x ≡ facts_of y → conflicts d x ≡ conflicts e y
same_conflict d e x y f g =
    ap (λ k. conflict_by k (facts_of x)) f ∙ ap (λ k. conflict_by (facts_of e) k) g

same_memory : (x y : Step) → facts_of x ≡ facts_of y → is_memory x ≡ is_memory y
same_memory x y f = ap (λ (k : Facts). is_memory_pool k.pool) f

-- steps of the same facts conflict with the same of the last w accesses
abbrev pub ConflictAlike : ℕ → List Done → List Done → Type 0
ConflictAlike w g h = (x y : Step) (i : ℕ) → facts_of x ≡ facts_of y → i < w
    → conflicts_with g x i ≡ conflicts_with h y i

conflict_more : (w : ℕ) (g h : List Done) (d e : Done) → facts_of d.step ≡ facts_of e.step → ConflictAlike w g h
    → ConflictAlike (w + one (is_memory d.step)) (d ∷ g) (e ∷ h)
conflict_more w g h d e same f x y zero k l = elim (cases_Bool (is_memory d.step)) [
  | inl m ↦
      let n : is_memory e.step ≡ true = sym (same_memory d.step e.step same) ∙ m in
      rw (m, n) (same_conflict d.step e.step x y same k)
  | inr m ↦
      let n : is_memory e.step ≡ false = sym (same_memory d.step e.step same) ∙ m in
      let l' : 0 < w + 0 = rw m at l in
      rw (m, n) (f x y zero k (omega arith))
]
conflict_more w g h d e same f x y (suc i) k l = elim (cases_Bool (is_memory d.step)) [
  | inl m ↦
      let n : is_memory e.step ≡ true = sym (same_memory d.step e.step same) ∙ m in
      let l' : suc i < w + 1 = rw m at l in
      rw (m, n) (f x y i k (omega arith))
  | inr m ↦
      let n : is_memory e.step ≡ false = sym (same_memory d.step e.step same) ∙ m in
      let l' : suc i < w + 0 = rw m at l in
      rw (m, n) (f x y (suc i) k (omega arith))
]

pub same_steps : (config : Configuration) (w : ℕ) (g h : List Done) (xs ys : List Step)
    → map facts_of xs ≡ map facts_of ys → ConflictAlike w g h → AreSameSteps config w g h xs ys
same_steps config w g h [] [] e f = tt
same_steps config w g h [] (y ∷ ys) e f = absurd (cc)
same_steps config w g h (x ∷ xs) [] e f = absurd (cc)
same_steps config w g h (x ∷ xs) (y ∷ ys) e f =
    let here : facts_of x ≡ facts_of y = cc in
    let rest : map facts_of xs ≡ map facts_of ys = cc in (
      step_from w g h x y (ap without_bytes here) (λ i l. f x y i here l),
      same_steps config (w + one (is_memory x)) (next config g x) (next config h y) xs ys rest
          (conflict_more w g h (done x (times_of config g x)) (done y (times_of config h y)) here f),
    )

-- none are compared
pub none_alike : (g h : List Done) → ConflictAlike 0 g h
none_alike g h x y i e l = absurd (omega arith)

pub facts_decide : FactsDecideTimes
facts_decide config xs ys good e =
    let like = looks_refl config 0 [] (λ (i : ℕ) (l : 0 ≤ i). late i) in
    let first : first_issue config [] ≡ first_issue config [] + 0 = omega arith in
    let there = rest_later config 0 0 [] [] xs ys good tt tt like first
    (same_steps config 0 [] [] xs ys e (none_alike [] [])) in
    let here = rest_later config 0 0 [] [] xs xs good tt tt like first
    (same_steps config 0 [] [] xs xs refl (none_alike [] [])) in
    times_first config xs ∙ (here ∙ (sym there ∙ sym (times_first config ys)))
  where
    late : (i : ℕ) → lateness config [] i ≡ 0
    late i = omega arith
