-- From the number that is enough on a row's cycles stay the same.
use Rattle.std.proofs.Common.{◌≡◌, ℕ, ◌+◌, ◌-◌, ◌*◌, ◌≤◌, ◌==◌, arith, ap, sym, refl, ◌∙◌, List, [], ◌∷◌, map}
use Rattle.std.proofs.Common.{Bool, true, inl, inr, ◌⊎◌}
use Rattle.std.specs.Prelude.{unwrap_or}
use Rattle.std.specs.List.{find, list_all, range_with_len}
use Rattle.std.proofs.lemmas.Bool.{cases_Bool}
use Rattle.std.proofs.lemmas.Bool.Decides.{nat_tests}
use Rattle.std.proofs.lemmas.List.Sums.{sum_by-cons}
use Rattle.tomex_config.specs.Configuration.{Configuration}
use Rattle.tomex_study.specs.Cycles.{cycles_on}
use Rattle.tomex_study.specs.Program.{Workload}
use Rattle.tomex_study.specs.Study.{DesignSpace}
use Rattle.tomex_timing.specs.Run.{total}
use Rattle.tomex_config.specs.declared.part.Part.{Part}
use Rattle.tomex_config.specs.Parts.{most_of}
use Rattle.tomex_choices.specs.Enough.{enough, is_enough_on, stays_from, total_with}
use Rattle.tomex_choices.specs.Laws.{MoreThanEnoughChangesNothing}
use Rattle.tomex_config.specs.Parts.{with_count}
use Rattle.tomex_choices.specs.Passing.{Has}
use Rattle.tomex_choices.proofs.EnoughFrom.{all_at, in_range}
use Rattle.tomex_choices.proofs.Passes.{has_from}

found_or : (p : ℕ → Bool) (xs : List ℕ) (d : ℕ)
    → (unwrap_or (find p xs) d ≡ d) ⊎ (p (unwrap_or (find p xs) d) ≡ true)
found_or p [] d = inl refl
found_or p (x ∷ xs) d = elim (cases_Bool (p x)) [ inl e ↦ rw e (inr e) | inr e ↦ rw e (found_or p xs d) ]

enough_passes : (s : DesignSpace) (part : Part) → (enough s part ≡ most_of part)
    ⊎ (list_all (λ c. is_enough_on s.programs part c (enough s part)) s.rows ≡ true)
unfolding enough
enough_passes s part = found_or (λ n. list_all (λ c. is_enough_on s.programs part c n) s.rows)
    (range_with_len 1 (most_of part)) (most_of part)

-- a number that is enough on a row is as good as the most
stays : (programs : List Workload) (part : Part) (c : Configuration) (p : Workload) (n m : ℕ)
    → is_enough_on programs part c n ≡ true → Has programs p → n ≤ m → m ≤ most_of part
    → total_with c part p m ≡ total_with c part p (most_of part)
unfolding is_enough_on
stays programs part c p n m is h low high =
    let own = all_at (λ q. stays_from (total_with c part q) (most_of part) n) programs p is h in
    let same = all_at (λ k. total_with c part p k == total_with c part p (most_of part))
    (range_with_len n (most_of part + 1 - n)) m own (in_range n (most_of part + 1 - n) m low (omega arith)) in
    grind (arith, nat_tests)

as_with_most : (s : DesignSpace) (part : Part) (c : Configuration) (p : Workload) (n : ℕ) → Has s.rows c
    → Has s.programs p → enough s part ≤ n → n ≤ most_of part
    → total_with c part p n ≡ total_with c part p (most_of part)
as_with_most s part c p n row program low high = elim (enough_passes s part) [
  | inl most ↦ ap (total_with c part p) (let e : n ≡ most_of part = omega (arith, most) in e)
  | inr passes ↦
      stays s.programs part c p (enough s part) n
      (all_at (λ c. is_enough_on s.programs part c (enough s part)) s.rows c passes row) program low high
]

-- so are the weighted cycles, whatever the weights are
pub same_cycles : (others programs : List Workload) (a b : Configuration)
    → map (λ p. p.image) others ≡ map (λ p. p.image) programs
    → ((p : Workload) → Has programs p → total a p.image ≡ total b p.image) → cycles_on others a ≡ cycles_on others b
unfolding cycles_on
same_cycles [] programs a b images same = refl
same_cycles (q ∷ qs) [] a b images same = absurd (let f : q.image ∷ map (λ p. p.image) qs ≡ [] = images in cc)
same_cycles (q ∷ qs) (p ∷ ps) a b images same =
    let f : q.image ∷ map (λ p. p.image) qs ≡ p.image ∷ map (λ p. p.image) ps = images in
    let first : q.image ≡ p.image = (cc) in
    let others : map (λ p. p.image) qs ≡ map (λ p. p.image) ps = (cc) in
    let own : total a q.image ≡ total b q.image = ap (total a) first ∙ (same p (inl refl) ∙ sym (ap (total b) first)) in
    let rest = same_cycles qs ps a b others (λ x h. same x (inr h)) in
    sum_by-cons (λ p. p.weight * total a p.image) q qs
    ∙ (ap (λ (t : ℕ). q.weight * t + cycles_on qs a) own
    ∙ (ap (λ (t : ℕ). q.weight * total b q.image + t) rest
    ∙ sym (sum_by-cons (λ p. p.weight * total b p.image) q qs)))

pub nothing_changes : MoreThanEnoughChangesNothing
nothing_changes s part c reweighted m n row images low more high =
    same_cycles reweighted s.programs (with_count c part n) (with_count c part m) images
    (λ p h. as_with_most s part c p n (has_from s.rows c row) h (omega arith) high
    ∙ sym (as_with_most s part c p m (has_from s.rows c row) h low (omega arith)))
