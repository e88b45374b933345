-- Of the waits of a start the one in its last cycle counts, and what is missing in a cycle is missing in earlier ones.
use Rattle.std.proofs.Common.{ℕ, zero, suc, ◌+◌, ◌-◌, ◌<◌, ◌≤◌, ◌≡◌, Bool, true, false, arith, refl, inl, inr}
use Rattle.std.proofs.Common.{List, [], ◌∷◌, nat_lt, not, ◌&&◌, ◌||◌, count_by}
use Rattle.std.specs.List.{range_with_len}
use Rattle.std.proofs.lemmas.Bool.{cases_Bool, and_parts}
use Rattle.std.proofs.lemmas.Bool.Decides.{nat_tests}
use Rattle.std.proofs.lemmas.List.Sums.{sum_by-cons}
use Rattle.tomex_rvexec.specs.Steps.{j_of, k_of}
use Rattle.tomex_rvexec.specs.declared.step.Step.{Step}
use Rattle.tomex_timing.specs.declared.times.Done.{Done}
use Rattle.tomex_timing.specs.History.{source_end}
use Rattle.tomex_timing.specs.Needs.{cycles_that}
use Rattle.tomex_timing.specs.Recurrence.{are_conflicts_finished, conflicts, has_operands}
use Rattle.tomex_timing.specs.Ahead.{one}

last_counts : (p : ℕ → Bool) (n a : ℕ) → p (a + n) ≡ true → 0 < count_by p (range_with_len a (suc n))
last_counts p zero a e =
    let s : count_by p (range_with_len a 1) ≡ one (p a) + count_by p (range_with_len (a + 1) 0) =
    sum_by-cons (λ x. one (p x)) a (range_with_len (a + 1) 0) in
    let z : a + 0 ≡ a = omega arith in
    let f : p a ≡ true = rw z at e in
    let y : one (p a) ≡ 1 = rw f refl in
    omega arith
last_counts p (suc n) a e =
    let s : count_by p (range_with_len a (suc (suc n))) ≡ one (p a) + count_by p (range_with_len (a + 1) (suc n)) =
    sum_by-cons (λ x. one (p x)) a (range_with_len (a + 1) (suc n)) in
    let z : a + suc n ≡ a + 1 + n = omega arith in
    let k : 0 < count_by p (range_with_len (a + 1) (suc n)) = last_counts p n (a + 1) (rw z at e) in
    omega arith

-- a wait in the last cycle counts
pub some_wait : (p : ℕ → Bool) (from to : ℕ) → from < to → p (to - 1) ≡ true → 0 < cycles_that p from to
some_wait p from to l e =
    let z : to - 1 ≡ from + (to - from - 1) = omega arith in
    let y : to - from ≡ suc (to - from - 1) = omega arith in
    rw y (last_counts p (to - from - 1) from (rw z at e))

-- what isn't there in a cycle isn't in an earlier one

one_earlier : (c : Bool) (f s t : ℕ) → s ≤ t → (not c || nat_lt f s) ≡ true → (not c || nat_lt f t) ≡ true
one_earlier c f s t l a = grind (arith, nat_tests)

finished_later : (h : List Done) (x : Step) (s t : ℕ) → s ≤ t → are_conflicts_finished h x s ≡ true
    → are_conflicts_finished h x t ≡ true
finished_later [] x s t l e = refl
finished_later (d ∷ h) x s t l e =
    let two = and_parts (not (conflicts d.step x) || nat_lt d.at.finish s) (are_conflicts_finished h x s) e in
    rw (one_earlier (conflicts d.step x) d.at.finish s t l two.0, finished_later h x s t l two.1) refl

pub unfinished_earlier : (h : List Done) (x : Step) (s t : ℕ) → s ≤ t → are_conflicts_finished h x t ≡ false
    → are_conflicts_finished h x s ≡ false
unfinished_earlier h x s t l e = elim (cases_Bool (are_conflicts_finished h x s)) [
  | inl i ↦ let f : are_conflicts_finished h x t ≡ true = finished_later h x s t l i in absurd (cc)
  | inr i ↦ i
]

two_earlier : (j k s t : ℕ) → s ≤ t → (nat_lt j t && nat_lt k t) ≡ false → (nat_lt j s && nat_lt k s) ≡ false
two_earlier j k s t l e = grind (arith, nat_tests)

pub no_operands_earlier : (h : List Done) (x : Step) (s t : ℕ) → s ≤ t → has_operands h x t ≡ false
    → has_operands h x s ≡ false
no_operands_earlier h x s t l e = two_earlier (source_end h (j_of x)) (source_end h (k_of x)) s t l e
