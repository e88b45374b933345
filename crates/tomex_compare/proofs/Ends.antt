-- Pairs by ratio: the first has no greater ratio than any, the last no lesser one, and so half of them on each side of
-- the middle one.
use Rattle.std.proofs.Common.{◌≡◌, ap, arith, refl, subst, sym, ℕ, zero, suc, ◌+◌, ◌-◌, ◌*◌, ◌/◌, ◌<◌, ◌≤◌}
use Rattle.std.proofs.Common.{true, false}
use Rattle.std.proofs.Common.{not, cond, List, [], ◌∷◌, Some, get_or, length, nat_lt, ◌==◌, ◌&&◌, ◌||◌}
use Rattle.std.proofs.Common.{slice_get}
use Rattle.std.specs.Prelude.{count_by}
use Rattle.std.specs.List.{Contains}
use Rattle.std.proofs.lemmas.Bool.Decides.{nat_tests}
use Rattle.std.proofs.lemmas.Option.{get_or_from_slice_get, slice_get_within}
use Rattle.tomex_compare.specs.GroupTable.{best, median, takes_as_many, takes_fewer, takes_more, worst}
use Rattle.tomex_compare.specs.Pairs.{goes_before, has_less}
use Rattle.tomex_compare.specs.declared.pairs.Pair.{Pair}
use Rattle.tomex_compare.proofs.ByRatio.{GoesBefore}
use Rattle.tomex_compare.proofs.Counts.{count_back, count_by-cons, count_front}
use Rattle.tomex_compare.proofs.Sorting.{Rises, rises_pairs}

-- one that stands before another has no greater ratio
pub before_no_greater : (a b : Pair) → goes_before a b ≡ true → has_less b a ≡ false
before_no_greater a b e = go (a.new * b.old) (b.new * a.old) a.row b.row e
  where
    go : (p q m n : ℕ) → (nat_lt p q || (p == q && nat_lt m n)) ≡ true → nat_lt q p ≡ false
    go p q m n e = grind (arith, nat_tests)

pub own_no_greater : (a : Pair) → has_less a a ≡ false
own_no_greater a = go (a.new * a.old)
  where
    go : (p : ℕ) → nat_lt p p ≡ false
    go p = grind (arith, nat_tests)

module _ (ps : List Pair) (up : Rises GoesBefore ps) where
  -- one at an earlier place, or at the same, has no greater ratio
  pub in_order : (j k : ℕ) (d : Pair) → j ≤ k → k < length ps → has_less (get_or ps k d) (get_or ps j d) ≡ false
  in_order j k d l m = go (k - j) refl
    where
      go : (n : ℕ) → k - j ≡ n → has_less (get_or ps k d) (get_or ps j d) ≡ false
      go zero e =
          let same : j ≡ k = omega arith in
          subst (λ (i : ℕ). has_less (get_or ps k d) (get_or ps i d) ≡ false) (sym same)
          (own_no_greater (get_or ps k d))
      go (suc n) e =
          before_no_greater (get_or ps j d) (get_or ps k d)
          (rises_pairs GoesBefore ps up j k d (omega arith) m)

  at_place : (k : ℕ) (p : Pair) → slice_get ps k ≡ Some p → (d : Pair) → p ≡ get_or ps k d
  at_place k p is d = sym (get_or_from_slice_get ps k p d is)

  pub best_is_least : (b p : Pair) → best ps ≡ Some b → Contains ps p → has_less p b ≡ false
  best_is_least b p is c =
      subst (λ (x : Pair). has_less p x ≡ false) (sym (at_place 0 b is p))
      (subst (λ (x : Pair). has_less x (get_or ps 0 p) ≡ false) c.2
      (in_order 0 c.0 p (omega arith) c.1))

  pub worst_is_greatest : (w p : Pair) → worst ps ≡ Some w → Contains ps p → has_less w p ≡ false
  worst_is_greatest w p is c =
      let l : c.0 < length ps = c.1 in
      subst (λ (x : Pair). has_less x p ≡ false) (sym (at_place (length ps - 1) w is p))
      (subst (λ (x : Pair). has_less (get_or ps (length ps - 1) p) x ≡ false) c.2
      (in_order c.0 (length ps - 1) p (omega arith) (omega arith)))

module _ (ps : List Pair) (up : Rises GoesBefore ps) (m : Pair) (is : median ps ≡ Some m) where
  mid_at : (d : Pair) → m ≡ get_or ps ((length ps - 1) / 2) d
  mid_at d = sym (get_or_from_slice_get ps ((length ps - 1) / 2) m d is)

  within : (length ps - 1) / 2 < length ps
  within = slice_get_within ps ((length ps - 1) / 2) m is

  pub half_at_most : length ps ≤ 2 * count_by (λ p. not (has_less m p)) ps
  half_at_most =
      let l = within in
      let some = count_front (λ p. not (has_less m p)) ps (suc ((length ps - 1) / 2)) (omega (arith, l))
      (λ i d k. ap not (subst (λ (x : Pair). has_less x (get_or ps i d) ≡ false) (sym (mid_at d))
      (in_order ps up i ((length ps - 1) / 2) d (omega arith) l))) in
      omega (arith, some)

  pub half_at_least : length ps ≤ 2 * count_by (λ p. not (has_less p m)) ps
  half_at_least =
      let l = within in
      let some = count_back (λ p. not (has_less p m)) ps ((length ps - 1) / 2)
      (λ i d j k. ap not (subst (λ (x : Pair). has_less (get_or ps i d) x ≡ false) (sym (mid_at d))
      (in_order ps up ((length ps - 1) / 2) i d j k))) in
      omega (arith, some)

-- each pair is counted once

pub counts_are_all : (ps : List Pair)
    → count_by takes_fewer ps + count_by takes_as_many ps + count_by takes_more ps ≡ length ps
counts_are_all [] = refl
counts_are_all (p ∷ ps) =
    let rest = counts_are_all ps in
    let once = one p.new p.old in
    rw (count_by-cons takes_fewer p ps, count_by-cons takes_as_many p ps, count_by-cons takes_more p ps)
    (omega (arith, rest, once))
  where
    one : (m n : ℕ) → cond (nat_lt m n) 1 0 + cond (m == n) 1 0 + cond (nat_lt n m) 1 0 ≡ 1
    one m n = grind (arith, nat_tests)
