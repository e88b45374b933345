-- The least number that passes a test: it is one, and a bounded search finds it.
use Rattle.std.proofs.Common.{ℕ, zero, suc, ◌+◌, ◌<◌, ◌≤◌, ◌≡◌, Bool, true, false, refl, IsTrue, arith, inl, inr, subst}
use Rattle.std.proofs.Common.{add-zero, zero-add, sym, ◌∙◌, nat_le, ◌==◌, ◌&&◌}
use Rattle.std.proofs.lemmas.Bool.{and_parts, cases_Bool, cases_order, both_ways, eq-eqb, leb-true, ne_eqb}
use Rattle.tomex_reservations.specs.Reservations.{IsFirst}
use Rattle.tomex_timing.specs.Recurrence.{IsLeast}
use Rattle.tomex_timing.specs.Search.{first_from, least}

pub least_same : (p : ℕ → Bool) (a b : ℕ) → IsLeast p a → IsLeast p b → a ≡ b
least_same p a b x y = elim (cases_order a b) [
  | inl e ↦ e
  | inr (inl l) ↦ absurd (both_ways _ (y.1 a l) x.0)
  | inr (inr l) ↦ absurd (both_ways _ (x.1 b l) y.0)
]

pub least_le : (p : ℕ → Bool) (a t : ℕ) → IsLeast p a → IsTrue (p t) → a ≤ t
least_le p a t x y = elim (cases_order a t) [
  | inl e ↦ omega arith
  | inr (inl l) ↦ omega arith
  | inr (inr l) ↦ absurd (both_ways _ (x.1 t l) y)
]

-- one more number that fails
pub fails_more : (p : ℕ → Bool) (t : ℕ) → ((s : ℕ) → s < t → p s ≡ false) → p t ≡ false → (s : ℕ) → s < suc t
    → p s ≡ false
fails_more p t below here s l = elim (cases_order s t) [
  | inl e ↦ rw e here
  | inr (inl k) ↦ below s k
  | inr (inr k) ↦ absurd (omega arith)
]

first_from_is : (p : ℕ → Bool) (t n : ℕ) → ((s : ℕ) → s < t → p s ≡ false) → IsTrue (p (t + n))
    → IsLeast p (first_from p t n)
first_from_is p t zero below here = (rw add-zero at here, below)
first_from_is p t (suc n) below here = elim (cases_Bool (p t)) [
  | inl e ↦ rw e (e, below)
  | inr e ↦ rw e (first_from_is p (suc t) n (fails_more p t below e) (subst (λ k. IsTrue (p k)) (omega arith) here))
]

pub least_is : (p : ℕ → Bool) (n : ℕ) → IsTrue (p n) → IsLeast p (least p n)
least_is p n here = first_from_is p 0 n (λ s l. absurd (omega arith)) (rw zero-add here)

-- up to the least number that passes, the test passes just there
pub least_test : (p : ℕ → Bool) (a u : ℕ) → IsLeast p a → u ≤ a → p u ≡ (a == u)
least_test p a u l le = elim (cases_order a u) [
  | inl e ↦ let h : p a ≡ true = l.0 in rw (eq-eqb a u e, ← e) h
  | inr (inl k) ↦ absurd (omega arith)
  | inr (inr k) ↦ rw (l.1 u k, ne_eqb a u (λ (e : a ≡ u). absurd (omega arith))) refl
]

-- a test that is as another has the same least number
pub least_agree : (p q : ℕ → Bool) (a : ℕ) → ((t : ℕ) → p t ≡ q t) → IsLeast p a → IsLeast q a
least_agree p q a agree x = (let h : q a ≡ p a = sym (agree a) in h ∙ x.0, λ s l. sym (agree s) ∙ x.1 s l)

-- a search from one cycle on, of a test that is as another from there on
pub first_agree : (p q : ℕ → Bool) (from t : ℕ) → ((s : ℕ) → from ≤ s → p s ≡ q s) → IsFirst from p t → IsFirst from q t
first_agree p q from t agree first =
    least_agree (λ s. nat_le from s && p s) (λ s. nat_le from s && q s) t (λ s. elim (cases_Bool (nat_le from s)) [
      | inl e ↦ rw (e, agree s (leb-true from s e)) refl
      | inr e ↦ rw e refl
    ]) first

pub first_from_le : (p : ℕ → Bool) (from t : ℕ) → IsFirst from p t → from ≤ t
first_from_le p from t first = leb-true from t (and_parts (nat_le from t) (p t) first.0).0
