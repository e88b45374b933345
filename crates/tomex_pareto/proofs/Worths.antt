-- A row that is best for some worth is on the hull.
use Rattle.std.proofs.Common.{◌≡◌, ℕ, ◌≤◌, arith, refl, List, Bool, true, Option, Some, None, nat_lt}
use Rattle.std.proofs.lemmas.Bool.{both_ways}
use Rattle.std.proofs.lemmas.Bool.Decides.{nat_tests}
use Rattle.tomex_pareto.specs.declared.front_row.FrontRow.{FrontRow}
use Rattle.tomex_pareto.specs.Front.{front_of}
use Rattle.tomex_pareto.proofs.Pareto.{AreApart, Has, IsFree, front_is}
use Rattle.tomex_pareto.specs.Hull.{hull_of}
use Rattle.tomex_pareto.specs.Steps.{best_of}
use Rattle.tomex_pareto.proofs.Best.{IsOrder, best_found, none_found}
use Rattle.tomex_pareto.proofs.OnHull.{on_hull}
use Rattle.tomex_pareto.proofs.Sums.{not_above, smaller, sum_for}

-- no row has a smaller sum
abbrev pub IsLeast : List FrontRow → ℕ → ℕ → FrontRow → Type 0
IsLeast rows p q r = (j : FrontRow) → Has rows j → sum_for p q r ≤ sum_for p q j

pub least_free : (rows : List FrontRow) (p q : ℕ) (r : FrontRow) → 1 ≤ p → 1 ≤ q → IsLeast rows p q r → IsFree rows r
least_free rows p q r pp pq least d h w = let s = smaller p q d r pp pq w in let l = least d h in omega (arith, s, l)

pub best_on_hull : (rows : List FrontRow) (p q : ℕ) (r : FrontRow) → AreApart rows → 1 ≤ p → 1 ≤ q → Has rows r
    → IsLeast rows p q r → Has (hull_of (front_of rows)) r
best_on_hull rows p q r far pp pq one least =
    let it = front_is rows far in
    let within : (x : FrontRow) → Has (front_of rows) x → Has rows x = λ x h. (it.only x h).0 in
    on_hull (front_of rows) r (it.all r one (least_free rows p q r pp pq least)) (λ m.
    not_above p q m.a m.b r pp (least m.a (within m.a m.has_a)) (least m.b (within m.b m.has_b)) m.above)

-- the row with the smallest sum is on the front, so what is least on the front is least of all

abbrev is_smaller : ℕ → ℕ → FrontRow → FrontRow → Bool
is_smaller p q x a = nat_lt (sum_for p q x) (sum_for p q a)

sum_order : (p q : ℕ) → IsOrder (λ x. true) (is_smaller p q)
sum_order p q = record {
  itself = λ x. grind (arith, nat_tests);
  over = λ x y a px py pa e f. grind (arith, nat_tests);
}

pub front_decides : (rows : List FrontRow) (p q : ℕ) (r : FrontRow) → AreApart rows → 1 ≤ p → 1 ≤ q → Has rows r
    → IsLeast (front_of rows) p q r → IsLeast rows p q r
front_decides rows p q r far pp pq one least j h = found (best_of (λ x. true) (is_smaller p q) None rows) refl where
  found : (o : Option FrontRow) → best_of (λ x. true) (is_smaller p q) None rows ≡ o → sum_for p q r ≤ sum_for p q j
  found None e = absurd (both_ways _ (none_found (λ x. true) (is_smaller p q) (sum_order p q) rows e j h) refl)
  found (Some a) e =
      let w = best_found (λ x. true) (is_smaller p q) (sum_order p q) rows a e in
      let up : IsLeast rows p q a = λ x i. (let s = w.best x i refl in grind (arith, nat_tests)) in
      let on = (front_is rows far).all a w.one (least_free rows p q a pp pq up) in
      let x = least a on in
      let y = up j h in
      omega (arith, x, y)
