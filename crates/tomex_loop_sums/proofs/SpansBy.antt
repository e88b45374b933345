-- The spans of visits grow by one visit at a time.
use Rattle.std.proofs.Common.{ℕ, zero, suc, ◌+◌, ◌<◌, ◌≤◌, ◌≡◌, arith, refl, ap, sym}
use Rattle.std.proofs.Common.{List, [], ◌∷◌, ◌++◌, Option, Some, None, length, get_or, take}
use Rattle.std.specs.Prelude.{All, IfSome, unwrap_or}
use Rattle.std.specs.List.Sorted.{IsNonDecreasingBy}
use Rattle.std.proofs.lemmas.List.{length-take, take_more}
use Rattle.tomex_loops.specs.declared.visit.Visit.{Visit}
use Rattle.tomex_loops.specs.Sound.{AreEnds}
use Rattle.tomex_loop_sums.specs.declared.spans.Span.{Span}
use Rattle.tomex_loop_sums.specs.ByLoop.{spans_by}

-- the span of a visit
abbrev pub span_of : ℕ → Visit → Option ℕ → Span
span_of count v e = record { key = v.number; from = v.first; to = unwrap_or e count }

spans_push : (count : ℕ) (visits : List Visit) (ends : List (Option ℕ)) (v : Visit) (e : Option ℕ)
    → length ends ≡ length visits
    → spans_by count (visits ++ (v ∷ [])) (ends ++ (e ∷ [])) ≡ spans_by count visits ends ++ (span_of count v e ∷ [])
spans_push count [] [] v e l = refl
spans_push count [] (f ∷ ends) v e l = absurd (omega (arith, l))
spans_push count (u ∷ visits) [] v e l = absurd (omega (arith, l))
spans_push count (u ∷ visits) (f ∷ ends) v e l =
    ap (λ (xs : List Span). span_of count u f ∷ xs) (spans_push count visits ends v e (omega (arith, l)))

pub spans_more : (count : ℕ) (visits : List Visit) (ends : List (Option ℕ)) (i to : ℕ) (d : Visit)
    (was new : List Span) → length ends ≡ length visits → i < length visits
    → was ≡ spans_by count (take i visits) (take i ends) → to ≡ unwrap_or (get_or ends i None) count
    → new ≡ was ++ (record { key = (get_or visits i d).number; from = (get_or visits i d).first; to = to } ∷ [])
    → new ≡ spans_by count (take (i + 1) visits) (take (i + 1) ends)
spans_more count visits ends i to d was new pairs l is_was is_to is_new =
    rw (is_new, is_was, is_to, take_more visits i d l, take_more ends i None (omega (arith, pairs, l)))
    (sym (spans_push count (take i visits) (take i ends) (get_or visits i d) (get_or ends i None)
    (omega (arith, length-take i visits, length-take i ends, pairs))))

-- what holds of the spans of visits

spans_many : (count : ℕ) (visits : List Visit) (ends : List (Option ℕ)) → length ends ≡ length visits
    → length (spans_by count visits ends) ≡ length visits
spans_many count [] ends l = refl
spans_many count (v ∷ visits) [] l = absurd (omega (arith, l))
spans_many count (v ∷ visits) (e ∷ ends) l =
    let rest = spans_many count visits ends (omega (arith, l)) in omega (arith, rest)

span_at : (count : ℕ) (visits : List Visit) (ends : List (Option ℕ)) (i : ℕ) (d : Span) (z : Visit)
    → length ends ≡ length visits → i < length visits
    → get_or (spans_by count visits ends) i d ≡ span_of count (get_or visits i z) (get_or ends i None)
span_at count [] ends i d z pairs l = absurd (omega (arith, l))
span_at count (v ∷ visits) [] i d z pairs l = absurd (omega (arith, pairs))
span_at count (v ∷ visits) (e ∷ ends) zero d z pairs l = refl
span_at count (v ∷ visits) (e ∷ ends) (suc i) d z pairs l =
    span_at count visits ends i d z (omega (arith, pairs)) (omega (arith, l))

none : Visit
none = record { head = 0; number = 0; around = None; within = None; first = 0 }

module _ (count : ℕ) (visits : List Visit) (ends : List (Option ℕ)) (pairs : length ends ≡ length visits) where
  all_spans : (P : Span → Type 0)
      → ((i : ℕ) → i < length visits → P (span_of count (get_or visits i none) (get_or ends i None)))
      → All P (spans_by count visits ends)
  all_spans P each = λ i d l.
      let small : i < length visits = omega (arith, l, spans_many count visits ends pairs) in
      rw (span_at count visits ends i d none pairs small) (each i small)

  pub spans_keys : (n : ℕ) → All (λ v. v.number < n) visits → All (λ x. x.key < n) (spans_by count visits ends)
  spans_keys n all = all_spans (λ x. x.key < n) (λ i l. all i none l)

  pub spans_order : IsNonDecreasingBy (λ v. v.first) visits
      → IsNonDecreasingBy (λ x. x.from) (spans_by count visits ends)
  spans_order order = λ i j d before l.
      let small : j < length visits = omega (arith, l, spans_many count visits ends pairs) in
      rw (
        span_at count visits ends i d none pairs (omega (arith, before, small)),
        span_at count visits ends j d none pairs small,
      ) (order i j none before small)

  -- they end no earlier than they begin, and with the run

  end_is : (v : Visit) (e : Option ℕ) → v.first < count → IfSome e (λ n. (v.first ≤ n) × (n ≤ count))
      → (v.first ≤ unwrap_or e count) × (unwrap_or e count ≤ count)
  end_is v None l is = (omega (arith, l), omega arith)
  end_is v (Some n) l is = is

  pub spans_forward : All (λ v. v.first < count) visits → AreEnds count visits ends
      → All (λ x. x.from ≤ x.to) (spans_by count visits ends)
  spans_forward first are = all_spans (λ x. x.from ≤ x.to)
      (λ i l. (end_is (get_or visits i none) (get_or ends i None) (first i none l) (are i none l)).0)

  pub spans_within : All (λ v. v.first < count) visits → AreEnds count visits ends
      → All (λ x. x.to ≤ count) (spans_by count visits ends)
  spans_within first are = all_spans (λ x. x.to ≤ count)
      (λ i l. (end_is (get_or visits i none) (get_or ends i None) (first i none l) (are i none l)).1)
