-- A row on the hull is best for some worth: that of the steepest step from it.
use Rattle.std.proofs.Common.{◌≡◌, ℕ, ◌+◌, ◌*◌, ◌-◌, ◌<◌, ◌≤◌, arith, inl, inr, refl, subst, List}
use Rattle.std.proofs.Common.{true, false, Option, Some, None}
use Rattle.std.proofs.Math.Nat.{mul-le-mul_left}
use Rattle.std.proofs.lemmas.Bool.{cases_lt}
use Rattle.std.proofs.lemmas.Bool.Decides.{nat_tests}
use Rattle.tomex_pareto.specs.declared.front_row.FrontRow.{FrontRow}
use Rattle.tomex_pareto.specs.Front.{front_of}
use Rattle.tomex_pareto.specs.Pareto.{Dominates}
use Rattle.tomex_pareto.proofs.Pareto.{AreApart, Has, front_is}
use Rattle.tomex_pareto.specs.Hull.{hull_of}
use Rattle.tomex_pareto.specs.Steps.{best_of, follows_steeper, is_costlier}
use Rattle.tomex_pareto.proofs.Best.{best_found, none_found}
use Rattle.tomex_pareto.proofs.Mixes.{steeper_order}
use Rattle.tomex_pareto.proofs.OnHull.{hull_within, rates_fall}
use Rattle.tomex_pareto.proofs.Sums.{sum_for}
use Rattle.tomex_pareto.proofs.Worths.{IsLeast, front_decides}

-- what isn't dominated by a cheaper row takes fewer cycles
pub cheaper_longer : (x r : FrontRow) → x.cost < r.cost → (Dominates x r → ⊥) → r.cycles < x.cycles
cheaper_longer x r l free = elim (cases_lt r.cycles x.cycles) [
  | inl m ↦ m
  | inr m ↦ absurd (free (record { cost = omega arith; cycles = m; less = inl l }))
]

equal_longer : (x r : FrontRow) → x.cost ≡ r.cost → (Dominates x r → ⊥) → r.cycles ≤ x.cycles
equal_longer x r e free = elim (cases_lt x.cycles r.cycles) [
  | inl m ↦ absurd (free (record { cost = omega arith; cycles = omega arith; less = inr m }))
  | inr m ↦ m
]

-- a sum is no smaller at what is cheaper by d, and takes e cycles more
before_worth : (p q c d y e : ℕ) → q * d ≤ p * e → q * (c + d) + p * y ≤ q * c + p * (y + e)
before_worth p q c d y e s = omega (arith, s)

-- nor at what is costlier by d, and saves at most e cycles
after_worth : (p q c d y z e : ℕ) → y ≤ z + e → p * e ≤ q * d → q * c + p * y ≤ q * (c + d) + p * z
after_worth p q c d y z e l s = let w : p * y ≤ p * (z + e) = mul-le-mul_left p l in omega (arith, w, s)

module _ (p q : ℕ) (r x : FrontRow) where
  not_smaller_before : x.cost < r.cost → r.cycles < x.cycles → q * (r.cost - x.cost) ≤ p * (x.cycles - r.cycles)
      → sum_for p q r ≤ sum_for p q x
  not_smaller_before l m s =
      let c : x.cost + (r.cost - x.cost) ≡ r.cost = omega arith in
      let y : r.cycles + (x.cycles - r.cycles) ≡ x.cycles = omega arith in
      let w = before_worth p q x.cost (r.cost - x.cost) r.cycles (x.cycles - r.cycles) s in
      let v = subst (λ (n : ℕ). q * n + p * r.cycles ≤ q * x.cost + p * (r.cycles + (x.cycles - r.cycles))) c w in
      subst (λ (n : ℕ). q * r.cost + p * r.cycles ≤ q * x.cost + p * n) y v

  not_smaller_after : r.cost < x.cost → p * (r.cycles - x.cycles) ≤ q * (x.cost - r.cost)
      → sum_for p q r ≤ sum_for p q x
  not_smaller_after l s =
      let c : r.cost + (x.cost - r.cost) ≡ x.cost = omega arith in
      let w = after_worth p q r.cost (x.cost - r.cost) r.cycles x.cycles (r.cycles - x.cycles) (omega arith) s in
      subst (λ (n : ℕ). q * r.cost + p * r.cycles ≤ q * n + p * x.cycles) c w

  not_smaller_equal : x.cost ≡ r.cost → r.cycles ≤ x.cycles → sum_for p q r ≤ sum_for p q x
  not_smaller_equal e l = let w : p * r.cycles ≤ p * x.cycles = mul-le-mul_left p l in rw e (omega (arith, w))

-- without a costlier row a cycle is worth more than all that the row costs
last_is_least : (r x : FrontRow) → x.cost ≤ r.cost → (Dominates x r → ⊥)
    → sum_for (r.cost + 1) 1 r ≤ sum_for (r.cost + 1) 1 x
last_is_least r x l free = elim (cases_lt x.cost r.cost) [
  | inl m ↦
      let more : r.cycles + 1 ≤ x.cycles = (let z = cheaper_longer x r m free in omega arith) in
      let w : (r.cost + 1) * (r.cycles + 1) ≤ (r.cost + 1) * x.cycles = mul-le-mul_left (r.cost + 1) more in
      omega (arith, w)
  | inr m ↦
      let e : x.cost ≡ r.cost = omega arith in
      not_smaller_equal (r.cost + 1) 1 r x e (equal_longer x r e free)
]

-- it is best for q cycles that are worth p of cost
pub record Worth (rows : List FrontRow) (r : FrontRow) : Type 0 where
  pub p : ℕ
  pub q : ℕ
  pub some_cost : 1 ≤ p
  pub some_cycles : 1 ≤ q
  pub one : Has rows r
  pub least : IsLeast rows p q r

pub worth_of : (rows : List FrontRow) (r : FrontRow) → AreApart rows → Has (hull_of (front_of rows)) r → Worth rows r
worth_of rows r far on = found (best_of (is_costlier r) (follows_steeper r) None (front_of rows)) refl where
  is : Has (front_of rows) r
  is = hull_within (front_of rows) r on

  one : Has rows r
  one = ((front_is rows far).only r is).0

  -- no row of the front dominates one of the front
  free : (x y : FrontRow) → Has (front_of rows) x → Has (front_of rows) y → Dominates x y → ⊥
  free x y h i = ((front_is rows far).only y i).1 x ((front_is rows far).only x h).0

  steepest_least : (n : FrontRow) → Has (front_of rows) n → r.cost < n.cost
      → ((x : FrontRow) → Has (front_of rows) x → is_costlier r x ≡ true → follows_steeper r x n ≡ false)
      → IsLeast (front_of rows) (n.cost - r.cost) (r.cycles - n.cycles) r
  steepest_least n hn up best x h = elim (cases_lt x.cost r.cost) [
    | inl l ↦
        let s = rates_fall (front_of rows) x r n h on hn l up in
        not_smaller_before _ _ r x l (cheaper_longer x r l (free x r h is)) (omega (arith, s))
    | inr l ↦ elim (cases_lt r.cost x.cost) [
      | inl m ↦
          let b = best x h (grind (arith, nat_tests)) in
          let s : (r.cycles - x.cycles) * (n.cost - r.cost) ≤ (r.cycles - n.cycles) * (x.cost - r.cost) =
          grind (arith, nat_tests) in
          not_smaller_after _ _ r x m (omega (arith, s))
      | inr m ↦
          let e : x.cost ≡ r.cost = omega arith in
          not_smaller_equal _ _ r x e (equal_longer x r e (free x r h is))
    ]
  ]

  found : (o : Option FrontRow) → best_of (is_costlier r) (follows_steeper r) None (front_of rows) ≡ o → Worth rows r
  found None e = record {
    p = r.cost + 1;
    q = 1;
    some_cost = omega arith;
    some_cycles = omega arith;
    one = one;
    least = front_decides rows (r.cost + 1) 1 r far (omega arith) (omega arith) one (λ x h. last_is_least r x
        (let d = none_found (is_costlier r) (follows_steeper r) (steeper_order r) (front_of rows) e x h in
        grind (arith, nat_tests)) (free x r h is));
  }
  found (Some n) e =
      let w = best_found (is_costlier r) (follows_steeper r) (steeper_order r) (front_of rows) n e in
      let up : r.cost < n.cost = (let t = w.passes_too in grind (arith, nat_tests)) in
      let saves = cheaper_longer r n up (free r n is w.one) in
      record {
        p = n.cost - r.cost;
        q = r.cycles - n.cycles;
        some_cost = omega arith;
        some_cycles = omega arith;
        one = one;
        least = front_decides rows (n.cost - r.cost) (r.cycles - n.cycles) r far (omega arith) (omega arith) one
            (steepest_least n w.one up w.best);
      }
